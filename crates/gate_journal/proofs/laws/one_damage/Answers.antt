use Rattle.gate_journal.proofs.UniqueLemmas.{undamaged, same_damage}
use Rattle.gate_journal.proofs.laws.one_damage.Goals as goal

pub returns-clause-none : goal.returns-clause-none
returns-clause-none c = λ image half at payloads. undamaged image half at payloads

pub returns-clause-place : goal.returns-clause-place
returns-clause-place c = same_damage
