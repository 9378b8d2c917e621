use Rattle.pox_outcomes.proofs.MarkupLemmas.{Going}
use Rattle.pox_outcomes.proofs.markup.follow.Given as goal

abbrev pub invariant-loop-piece : goal.invariant-loop-piece
invariant-loop-piece l = Going l.markup l.fn.bytes l.piece-index l.rest
