use Rattle.std.proofs.Common.{◌∙◌}
use Rattle.oauth_request.specs.Signing.{protocol_pairs}
use Rattle.oauth_request.proofs.SigningLemmas.{five, OnOk-then}
use Rattle.oauth_request.proofs.signing.push_protocol.Goals as goal

pub returns : goal.returns
unfolding protocol_pairs
returns c = OnOk-then c.push_field-5.result
    (λ is. is ∙ rw (c.in_ok-push_field-4.ensures, c.in_ok-push_field-3.ensures, c.in_ok-push_field-2.ensures, c.in_ok-push_field.ensures, c.format.ensures.text) (five _ _ _ _ _ _)) c.push_field-5.ensures
