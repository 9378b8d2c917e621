use Rattle.std.proofs.Common.{sym, ◌∙◌, arith, length-take, length-drop, length, drop, ◌-◌, ◌+◌}
use Rattle.http_wire.proofs.CloseLemmas.{close_behind, close_found, close_last}
use Rattle.http_wire.proofs.values.has_close.Goals as goal

pub returns-then-is_close : goal.returns-then-is_close
returns-then-is_close c =
    let found = c.in-Some.ensures in
    sym (c.loop-end.invariant.0 ∙ close_found c.loop-end.rest.now c.in-Some.end found.0 found.1 found.2 (sym c.is_close.ensures ∙ c.if-is_close.true))

pub loop-end-preserved : goal.loop-end-preserved
loop-end-preserved c =
    let found = c.in-Some.ensures in
    let rest = c.loop-end.rest.now in
    let end = c.in-Some.end in (
      c.loop-end.invariant.0 ∙ close_behind rest end found.0 found.1 found.2 (sym c.is_close.ensures ∙ c.if-is_close.false),
      omega (arith, c.loop-end.invariant.1, length-take (length rest - (end + 1)) (drop (end + 1) rest), length-drop (end + 1) rest),
    )

pub returns : goal.returns
returns c = c.is_close-2.ensures ∙ sym (c.loop-end.invariant.0 ∙ close_last c.loop-end.rest.now c.in_default.ensures)
