use Rattle.lti_consumer.proofs.LaunchLemmas.{form_says_launch}
use Rattle.lti_consumer.proofs.laws.a_launch_form_says_its_launch.Goals as goal

pub returns : goal.returns
returns c = form_says_launch
