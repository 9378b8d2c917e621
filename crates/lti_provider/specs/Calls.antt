-- Why a message asks nothing of the machine.
use Rattle.std.specs.Prelude.{◌≡◌, List, Some, ⊤}
use Rattle.lti_outside.specs.declared.pairs.Pair.{Pair}
use Rattle.lti_launch.specs.Faults.{fault_of}
use Rattle.lti_provider.specs.declared.fault.ProviderFault.{ProviderFault}
use Rattle.lti_provider.specs.declared.fault.ProviderFault.TheVariants as fault

-- the message asks nothing, for this cause; `NoMemory` says nothing of the message
abbrev pub IsFaultOf : List Pair → ProviderFault → Type 0
IsFaultOf pairs (fault.Launch launch) = fault_of pairs ≡ Some launch
IsFaultOf pairs fault.NoMemory = ⊤
