-- Why pairs are no launch (LTI 1.1.1, section 3; the order in which it is said is this project's own).
use Rattle.std.specs.Prelude.{◌≡◌, ℕ, Bool, true, not, ◌||◌, ◌==◌, nat_lt, List, length, codes, bytes_eq, if◌then◌else◌, Option, Some, ⊤}
use Rattle.std.specs.Option.{option_map}
use Rattle.std.specs.List.{list_any, find}
use Rattle.lti_outside.specs.declared.pairs.Pair.{Pair}
use Rattle.lti_launch.specs.declared.fields.LaunchField.{LaunchField}
use Rattle.lti_launch.specs.declared.fields.LaunchField.TheVariants.{LtiMessageType, LtiVersion, ResourceLinkId}
use Rattle.lti_launch.specs.declared.fault.LaunchFault.{LaunchFault}
use Rattle.lti_launch.specs.declared.fault.LaunchFault.TheVariants.{WrongType, WrongVersion, Missing, Repeated, NoMemory}
use Rattle.lti_launch.specs.Fields.{all_fields}
use Rattle.lti_launch.specs.Parameters.{values}

-- the message type and the version of a launch
unfoldable pub launch_type : List ℕ
launch_type = codes "basic-lti-launch-request"

unfoldable pub launch_version : List ℕ
launch_version = codes "LTI-1p0"

-- the parameter may have the value: the type and the version are a launch's, and a resource link isn't empty
abbrev pub fits : LaunchField → List ℕ → Bool
fits LtiMessageType value = bytes_eq value launch_type
fits LtiVersion value = bytes_eq value launch_version
fits ResourceLinkId value = not (length value == 0)
fits other value = true

-- no value of the parameter stands, or one that it may not have
abbrev pub is_wrong : LaunchField → List Pair → Bool
is_wrong field pairs = length (values field pairs) == 0 || list_any (λ value. not (fits field value)) (values field pairs)

-- the parameter stands twice
abbrev pub is_repeated : List Pair → LaunchField → Bool
is_repeated pairs field = nat_lt 1 (length (values field pairs))

-- the first fault of the pairs
abbrev pub fault_of : List Pair → Option LaunchFault
fault_of pairs =
    if is_wrong LtiMessageType pairs then Some WrongType
    else if is_wrong LtiVersion pairs then Some WrongVersion
    else if is_wrong ResourceLinkId pairs then Some Missing
    else option_map Repeated (find (is_repeated pairs) all_fields)

-- the fault is the first; `NoMemory` says nothing of the pairs
abbrev pub IsFaultOf : List Pair → LaunchFault → Type 0
IsFaultOf pairs NoMemory = ⊤
IsFaultOf pairs fault = fault_of pairs ≡ Some fault
