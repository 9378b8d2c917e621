use Rattle.lti_desk.proofs.ServeLemmas.{serves}
use Rattle.lti_desk.proofs.laws.a_run_serves.Goals as goal

pub returns : goal.returns
returns g c = serves g.D.Disk g.met.D.Disk.only_now
