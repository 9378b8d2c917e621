use Rattle.lti_machine.proofs.GradeLemmas.{told_as_set}
use Rattle.lti_machine.proofs.laws.a_grade_is_told_as_it_was_set.Goals as goal

pub returns : goal.returns
returns c = told_as_set
