-- What holds of all launches.
use Rattle.std.specs.Prelude.{◌≡◌, List, None}
use Rattle.lti_outside.specs.declared.pairs.Pair.{Pair}
use Rattle.lti_launch.specs.declared.fields.LaunchField.{LaunchField}
use Rattle.lti_launch.specs.Parameters.{value_in}
use Rattle.lti_launch.specs.Faults.{fault_of}
use Rattle.lti_launch.specs.Launch.{LaunchValue, launch_of, value_of, pairs_of}

-- the pairs have no fault, and spell this launch
pub record Spells (pairs : List Pair) (launch : LaunchValue) : Type 0 where
  pub faultless : fault_of pairs ≡ None
  pub spelled : launch_of pairs ≡ launch

-- Reading what was written gives the same launch.
abbrev pub WrittenIsRead : Type 0
WrittenIsRead = (pairs : List Pair) → fault_of pairs ≡ None → Spells (pairs_of (launch_of pairs)) (launch_of pairs)

-- A parameter of the launch that pairs spell has the value that stands once under its name.
abbrev pub ValuesStand : Type 0
ValuesStand = (pairs : List Pair) (field : LaunchField) → value_of (launch_of pairs) field ≡ value_in pairs field
