-- The fault that a fault of the wire leads to.
use Rattle.http_wire.specs.declared.fault.WireFault.{WireFault}
use Rattle.http_wire.specs.declared.fault.WireFault.TheVariants as wire
use Rattle.lti_provider.specs.declared.passback_fault.PassbackFault.{PassbackFault}
use Rattle.lti_provider.specs.declared.passback_fault.PassbackFault.TheVariants as fault

abbrev pub fault_by : WireFault → PassbackFault
fault_by wire.NoMemory = fault.NoMemory
fault_by cause = fault.Wire cause
