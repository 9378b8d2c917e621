use Rattle.std.proofs.Common.{◌++◌, ap, ◌∙◌}
use Rattle.sha1.specs.Sha1.{sha1}
use Rattle.oauth_sign.specs.Hmac.{Holds, hmac, padded_key}
use Rattle.oauth_sign.proofs.mac.Mac.finish.Goals as goal

pub returns : goal.returns
unfolding Holds hmac
returns c = λ k m held.
    c.finalize-2.ensures _ (c.update.ensures _ held.1)
    ∙ ap (λ inner. sha1 (padded_key 0x5C k ++ inner)) (c.finalize.ensures _ held.0)
