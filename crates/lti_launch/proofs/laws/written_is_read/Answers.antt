use Rattle.lti_launch.specs.Launch.{launch_of}
use Rattle.lti_launch.proofs.LaunchLemmas.{is_launch}
use Rattle.lti_launch.proofs.BackLemmas.{reads_back}
use Rattle.lti_launch.proofs.laws.written_is_read.Goals as goal

pub returns : goal.returns
returns c = λ pairs faultless. reads_back (launch_of pairs) (is_launch pairs faultless)
