use Rattle.lti_launch.proofs.LaunchLemmas.{value_stands}
use Rattle.lti_launch.proofs.laws.values_stand.Goals as goal

pub returns : goal.returns
returns c = value_stands
