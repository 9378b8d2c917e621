use Rattle.lti_machine.proofs.HistoryLemmas.{any_goes_by_rules}
use Rattle.lti_machine.proofs.laws.a_history_goes_by_the_rules.Goals as goal

pub returns : goal.returns
returns c = any_goes_by_rules
