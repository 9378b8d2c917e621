-- What a launch asks of the machine (LTI 1.1.1, sections 3 and 6).
use Rattle.std.specs.Prelude.{◌≡◌, ℕ, List, [], Option, None, Some}
use Rattle.lti_outside.specs.declared.pairs.Pair.{Pair}
use Rattle.lti_machine.specs.declared.call.Action.{Action}
use Rattle.lti_machine.specs.declared.call.Action.TheVariants as action
use Rattle.lti_launch.specs.Launch.{LaunchValue, launch_of, value_of}
use Rattle.lti_launch.specs.Faults.{fault_of}
use Rattle.lti_launch.specs.declared.fields.LaunchField.{LaunchField}
use Rattle.lti_launch.specs.declared.fields.LaunchField.TheVariants.{ResourceLinkId, UserId, LisResultSourcedid, LisOutcomeServiceUrl}

-- the text of a value, which is empty where there is none
abbrev pub text_in : Option (List ℕ) → List ℕ
text_in None = []
text_in (Some value) = value

-- the text of a launch's parameter, which is empty where the parameter is absent
abbrev pub text_of : LaunchValue → LaunchField → List ℕ
text_of launch field = text_in (value_of launch field)

-- a launch is noted with its link, its user, and where a grade goes (LTI 1.1.1, sections 3 and 6)
abbrev pub launch_action : LaunchValue → Action
launch_action launch =
    action.Launch (text_of launch ResourceLinkId) (text_of launch UserId) (text_of launch LisResultSourcedid) (text_of launch LisOutcomeServiceUrl)

-- the message is a launch, which is noted so
pub record IsLaunchCall (pairs : List Pair) (made : Action) : Type 0 where
  pub faultless : fault_of pairs ≡ None
  pub action_is : made ≡ launch_action (launch_of pairs)
