use Rattle.std.proofs.Common.{◌≡◌, length}
use Rattle.pox_outcomes.specs.Markup.{after_white}
use Rattle.pox_outcomes.proofs.markup.skip_white.Given as goal

abbrev pub invariant-loop-rest : goal.invariant-loop-rest
invariant-loop-rest l = after_white l.fn.bytes ≡ after_white l.rest

abbrev pub decreases-loop-rest : goal.decreases-loop-rest
decreases-loop-rest l = length l.rest
