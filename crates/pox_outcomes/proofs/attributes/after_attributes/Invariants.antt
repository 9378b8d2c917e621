use Rattle.std.proofs.Common.{length}
use Rattle.pox_outcomes.proofs.AttributeLemmas.{Along}
use Rattle.pox_outcomes.proofs.attributes.after_attributes.Given as goal

abbrev pub invariant-attributes : goal.invariant-attributes
invariant-attributes l = Along l.bytes l.seen l.rest

abbrev pub decreases-attributes : goal.decreases-attributes
decreases-attributes l = length l.rest
