use Rattle.std.proofs.Common.{refl, ◌∙◌}
use Rattle.oauth_request.proofs.ProtocolLemmas.{duplicates_all, duplicates_next, duplicates_past}
use Rattle.oauth_request.proofs.protocol.Protocol.check_single.Goals as goal

pub loop-field-init : goal.loop-field-init
loop-field-init c = λ pairs are. duplicates_all pairs

pub loop-field-preserved : goal.loop-field-preserved
loop-field-preserved c = λ pairs are.
    c.loop-field.invariant pairs are
    ∙ duplicates_next pairs c.loop-field.field-index _ c.is_repeated.result c.loop-field-test.true (c.is_repeated.ensures _ (c.get.ensures pairs are))
    ∙ rw c.if-is_repeated.false refl

pub returns-then-is_repeated : goal.returns-then-is_repeated
returns-then-is_repeated c = λ pairs are.
    c.loop-field.invariant pairs are
    ∙ duplicates_next pairs c.loop-field.field-index _ c.is_repeated.result c.loop-field-test.true (c.is_repeated.ensures _ (c.get.ensures pairs are))
    ∙ rw c.if-is_repeated.true refl

pub returns : goal.returns
returns c = λ pairs are. record { found = are; once = c.loop-field.invariant pairs are ∙ duplicates_past pairs c.loop-field.field-index c.loop-field-test.false }
