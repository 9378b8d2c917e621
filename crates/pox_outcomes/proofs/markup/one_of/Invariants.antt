use Rattle.pox_outcomes.specs.Markup.{IsMarkup, behind, word_at}
use Rattle.pox_outcomes.proofs.ChoiceLemmas.{IsTried}
use Rattle.pox_outcomes.proofs.markup.one_of.Given as goal

abbrev pub invariant-loop-place : goal.invariant-loop-place
invariant-loop-place l = IsTried (λ place. IsMarkup (word_at (behind l.words) place)) l.bytes l.place l.left
