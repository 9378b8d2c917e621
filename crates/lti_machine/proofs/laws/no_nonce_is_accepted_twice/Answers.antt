use Rattle.lti_machine.proofs.ReplayLemmas.{stood_refused, never_twice}
use Rattle.lti_machine.proofs.laws.no_nonce_is_accepted_twice.Goals as goal

pub returns-clause-stood : goal.returns-clause-stood
returns-clause-stood c = stood_refused

pub returns-clause-accepted : goal.returns-clause-accepted
returns-clause-accepted c = never_twice
