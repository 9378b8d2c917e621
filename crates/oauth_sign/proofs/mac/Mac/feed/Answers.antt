use Rattle.std.proofs.Common.{append_assoc}
use Rattle.oauth_sign.specs.Hmac.{Holds}
use Rattle.oauth_sign.proofs.mac.Mac.feed.Goals as goal

pub returns : goal.returns
unfolding Holds
returns c = λ k m held. (rw append_assoc at (c.update.ensures _ held.0), held.1)
