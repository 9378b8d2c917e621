use Rattle.std.proofs.Common.{ap, ◌∙◌}
use Rattle.oauth_sign.specs.Hmac.{hmac}
use Rattle.oauth_sign.proofs.FeedLemmas.{emptied}
use Rattle.oauth_sign.proofs.feed.Feed.finish.Goals as goal

pub returns : goal.returns
returns c = λ key message stands.
    let flushed = c.flush.ensures.same key message stands in
    c.finish.ensures key flushed.fed flushed.holds ∙ ap (hmac key) (emptied c.flush.new.self key message flushed c.flush.ensures.empty)
