use Rattle.std.proofs.Common.{◌++◌, take, length-append, length-take-le, arith}
use Rattle.std.proofs.lemmas.Result.{err_from_is_err_and}
use Rattle.lti_outside.proofs.TrafficLemmas.{Moves-takes}
use Rattle.lti_settings.proofs.settings_source.take_all.Goals as goal

pub returns-then-len-count-gt-MOST : goal.returns-then-len-count-gt-MOST
returns-then-len-count-gt-MOST g c = (
  c.turns.held.items ++ take c.in_ok-count.count c.take.new.buf,
  Moves-takes c.turns.invariant.taken c.in_ok-count.ensures.taken,
  omega (arith, c.if-len-count-gt-MOST.true, c.len.ensures, length-append c.turns.held.items (take c.in_ok-count.count c.take.new.buf), length-take-le c.in_ok-count.count c.take.new.buf c.in_ok-count.ensures.bound),
)

pub returns-in_err-extend_from_slice : goal.returns-in_err-extend_from_slice
returns-in_err-extend_from_slice g c =
    let p = err_from_is_err_and c.from_residual-in_err-extend_from_slice.result c.from_residual-in_err-extend_from_slice.ensures.1 in
    rw (p.1, p.2) (c.turns.held.items ++ take c.in_ok-count.count c.take.new.buf, Moves-takes c.turns.invariant.taken c.in_ok-count.ensures.taken)
