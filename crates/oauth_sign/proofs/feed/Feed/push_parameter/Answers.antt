use Rattle.oauth_text.specs.Escape.{escape}
use Rattle.oauth_sign.proofs.FeedLemmas.{separated}
use Rattle.oauth_sign.proofs.feed.Feed.push_parameter.Goals as goal

pub returns-clause-taken : goal.returns-clause-taken
returns-clause-taken c =
    separated 61 c.args.self.now c.push_twice_escaped_text.new.self c.push_escaped.new.self c.push_twice_escaped_text-2.new.self
    (escape c.args.parameter.now.name.now) (escape c.args.parameter.now.value.now)
    c.push_twice_escaped_text.ensures.taken c.push_escaped.ensures.taken c.push_twice_escaped_text-2.ensures.taken
