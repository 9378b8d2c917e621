use Rattle.std.proofs.Common.{◌+◌, ◌-◌, [], ◌∷◌, length, sym, ap, ◌∙◌}
use Rattle.oauth_text.specs.Blanks.{trim_end}
use Rattle.oauth_header.specs.Items.{Placed, items_in}
use Rattle.oauth_header.specs.Faults.{IsFaultOf}
use Rattle.oauth_header.proofs.HeaderLemmas.{IsFaultOf_at}
use Rattle.oauth_header.proofs.ResultLemmas.{IfErr_carried}
use Rattle.oauth_header.proofs.reading.read_piece.Goals as goal

pub returns-in_err-pair-clause-bad : goal.returns-in_err-pair-clause-bad
returns-in_err-pair-clause-bad c =
    let piece : Placed = record { at = c.args.at; bytes = c.args.piece.now } in
    let bytes = c.trim_end-item.ensures.trimmed ∙ ap trim_end c.trim_front-rest.ensures.trimmed in
    let at = ap (λ rest. c.args.at + (length c.args.piece.now - length rest)) c.trim_front-rest.ensures.trimmed in
    let some = sym c.is_empty.ensures ∙ c.if-is_empty.false in
    let bad = IsFaultOf_at c.in_err-pair.field-0.0 piece _ c.trim_end-item.result.now at bytes some c.in_err-pair.ensures.bad in
    IfErr_carried (IsFaultOf (items_in (piece ∷ []))) c.from_residual.result c.in_err-pair.field-0.0 c.from_residual.ensures.1 bad
