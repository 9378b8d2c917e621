use Rattle.http_wire.proofs.FirstLemmas.{faults_are_first}
use Rattle.http_wire.proofs.laws.faults_are_first.Goals as goal

pub returns : goal.returns
returns c = faults_are_first
