use Rattle.std.proofs.Common.{◌-◌, length, sym, ◌∙◌, subst, refl}
use Rattle.pox_outcomes.specs.Language.{StopsAt, Any}
use Rattle.pox_outcomes.specs.Stops.{IsHalt}
use Rattle.pox_outcomes.proofs.MarkupLemmas.{white_at}
use Rattle.pox_outcomes.proofs.EndLemmas.{bad_document, bad_rest, good_rest, rest_le, document_once}
use Rattle.pox_outcomes.proofs.documents.read.Goals as goal

pub overflow_sub-result : goal.overflow_sub-result
overflow_sub-result g c = rest_le g.D.Document.spelled c.read_root.ensures.once c.in-Ok.value c.in-Ok.ensures.reads (white_at c.skip_white-dark.ensures)

pub returns-then-not-is_end-clause-bad : goal.returns-then-not-is_end-clause-bad
returns-then-not-is_end-clause-bad g c =
    bad_rest g.D.Document.spelled c.read_root.ensures.once c.in-Ok.value _ c.in-Ok.ensures.reads (white_at c.skip_white-dark.ensures) (sym c.is_end.ensures ∙ c.if-not-is_end.true) refl

pub returns-then-not-is_end-clause-only : goal.returns-then-not-is_end-clause-only
returns-then-not-is_end-clause-only g c = λ v d.
    let bad = bad_rest g.D.Document.spelled c.read_root.ensures.once c.in-Ok.value (length c.args.bytes.now - length c.skip_white-dark.result.now) c.in-Ok.ensures.reads (white_at c.skip_white-dark.ensures)
    (sym c.is_end.ensures ∙ c.if-not-is_end.true) refl in
    absurd (bad.none v d)

pub returns-else-not-is_end-clause-document : goal.returns-else-not-is_end-clause-document
returns-else-not-is_end-clause-document g c =
    good_rest g.D.Document.spelled c.read_root.ensures.once c.in-Ok.value c.in-Ok.ensures.reads (white_at c.skip_white-dark.ensures) (sym c.is_end.ensures ∙ c.if-not-is_end.false)

pub returns-else-not-is_end-clause-only : goal.returns-else-not-is_end-clause-only
returns-else-not-is_end-clause-only g c = λ v d.
    let good = good_rest g.D.Document.spelled c.read_root.ensures.once c.in-Ok.value c.in-Ok.ensures.reads (white_at c.skip_white-dark.ensures) (sym c.is_end.ensures ∙ c.if-not-is_end.false) in
    document_once g.D.Document.spelled c.read_root.ensures.once c.args.bytes.now c.in-Ok.value v good d

pub returns-in-Err-Stopped-clause-bad : goal.returns-in-Err-Stopped-clause-bad
returns-in-Err-Stopped-clause-bad g c =
    let bytes = c.args.bytes.now in
    let left = c.in-Err-Stopped.stop.left in
    let stop : StopsAt (Any g.D.Document.spelled) bytes left = subst (IsHalt (Any g.D.Document.spelled) bytes) c.in-Err-Stopped.field-0-is c.in-Err-Stopped.ensures.stops in
    bad_document g.D.Document.spelled c.read_root.ensures.once bytes left (length bytes - left) refl stop

pub returns-in-Err-Stopped-clause-only : goal.returns-in-Err-Stopped-clause-only
returns-in-Err-Stopped-clause-only g c = λ v d.
    let bytes = c.args.bytes.now in
    let left = c.in-Err-Stopped.stop.left in
    let stop : StopsAt (Any g.D.Document.spelled) bytes left = subst (IsHalt (Any g.D.Document.spelled) bytes) c.in-Err-Stopped.field-0-is c.in-Err-Stopped.ensures.stops in
    let bad = bad_document g.D.Document.spelled c.read_root.ensures.once bytes left (length bytes - left) refl stop in
    absurd (bad.none v d)
