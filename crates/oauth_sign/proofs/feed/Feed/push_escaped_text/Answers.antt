use Rattle.oauth_sign.proofs.FeedLemmas.{all_escaped}
use Rattle.oauth_sign.proofs.feed.Feed.push_escaped_text.Goals as goal

pub returns-clause-taken : goal.returns-clause-taken
returns-clause-taken c =
    all_escaped c.args.self.now c.loop-byte.self c.args.text.now c.as_bytes-byte-items.result.now c.loop-byte.byte-index c.as_bytes-byte-items.ensures.value c.loop-byte-test.false c.loop-byte.invariant.taken
