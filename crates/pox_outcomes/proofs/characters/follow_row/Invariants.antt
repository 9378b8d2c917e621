use Rattle.pox_outcomes.proofs.CharacterLemmas.{Going}
use Rattle.pox_outcomes.proofs.characters.follow_row.Given as goal

abbrev pub invariant-loop-range : goal.invariant-loop-range
invariant-loop-range l = Going l.row l.fn.bytes l.range-index l.rest
