use Rattle.lti_machine.proofs.HistoryLemmas.{plain_goes_by_rules}
use Rattle.lti_machine.proofs.laws.a_plain_history_goes_by_the_rules.Goals as goal

pub returns : goal.returns
returns c = plain_goes_by_rules
