use Rattle.std.proofs.Common.{length}
use Rattle.pox_outcomes.proofs.NumberLemmas.{Counts}
use Rattle.pox_outcomes.proofs.references.number.Given as goal

abbrev pub invariant-digits : goal.invariant-digits
invariant-digits l = Counts l.base l.fn.bytes l.value l.rest

abbrev pub decreases-digits : goal.decreases-digits
decreases-digits l = length l.rest
