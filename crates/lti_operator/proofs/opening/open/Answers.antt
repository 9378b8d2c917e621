use Rattle.std.proofs.Common.{refl}
use Rattle.lti_operator.specs.Opening.Unopens.{no_settings, no_journal}
use Rattle.lti_operator.proofs.opening.open.Goals as goal

pub returns-in-Err-clause-unopened : goal.returns-in-Err-clause-unopened
returns-in-Err-clause-unopened g c = no_settings c.in-Err.none c.in-Err.ensures refl c.status.ensures

pub returns-in-Err-open_journal-clause-unopened : goal.returns-in-Err-open_journal-clause-unopened
returns-in-Err-open_journal-clause-unopened g c = no_journal c.in-Ok.read c.in-Ok.ensures c.in-Err-open_journal.ensures.unmounted
