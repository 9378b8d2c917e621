use Rattle.std.proofs.Common.{All}
use Rattle.turn_lock.specs.Passes.{IsPassOf}
use Rattle.turn_lock.proofs.tests.split_all.Given as goal

abbrev pub invariant-loop : goal.invariant-loop
invariant-loop l = IsPassOf l.lock l.first × All (λ p. IsPassOf l.lock p) l.passes.items
