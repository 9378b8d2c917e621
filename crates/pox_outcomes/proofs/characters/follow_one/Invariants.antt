use Rattle.pox_outcomes.specs.Characters.{IsRow, behind, row_at}
use Rattle.pox_outcomes.proofs.ChoiceLemmas.{IsTried}
use Rattle.pox_outcomes.proofs.characters.follow_one.Given as goal

abbrev pub invariant-loop-place : goal.invariant-loop-place
invariant-loop-place l = IsTried (λ place. IsRow (row_at (behind l.rows) place)) l.bytes l.place l.left
