use Rattle.std.proofs.Common.{append-nil}
use Rattle.oauth_sign.specs.Hmac.{Holds}
use Rattle.oauth_sign.proofs.mac.Mac.start.Goals as goal

pub returns : goal.returns
unfolding Holds
returns c = rw (append-nil, ← c.key_block-block.ensures) (c.begun-inner.ensures, c.begun-outer.ensures)
