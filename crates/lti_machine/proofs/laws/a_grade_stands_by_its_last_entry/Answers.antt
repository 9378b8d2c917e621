use Rattle.lti_machine.proofs.LastLemmas.{unknown_until_issued, empty_until_graded, last_decides}
use Rattle.lti_machine.proofs.laws.a_grade_stands_by_its_last_entry.Goals as goal

pub returns-clause-unknown : goal.returns-clause-unknown
returns-clause-unknown c = unknown_until_issued

pub returns-clause-empty : goal.returns-clause-empty
returns-clause-empty c = empty_until_graded

pub returns-clause-last : goal.returns-clause-last
returns-clause-last c = last_decides
