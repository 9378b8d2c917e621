use Rattle.lti_desk.proofs.ServeLemmas.{by_rules}
use Rattle.lti_desk.proofs.laws.a_legal_history_goes_by_the_rules.Goals as goal

pub returns : goal.returns
returns c = by_rules
