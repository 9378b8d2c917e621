-- How a `check` ends that ended before its work was done (this project's own).
use Rattle.std.specs.Prelude.{Result, Ok, Err}
use Rattle.lti_outside.specs.Traffic.{Fault, no_fault, read_fault, write_fault}
use Rattle.lti_words.specs.declared.status.Status.{Status}
use Rattle.lti_words.specs.declared.status.Status.TheVariants as status
use Rattle.lti_check.specs.declared.stop.Stop.{Stop}
use Rattle.lti_check.specs.declared.stop.Stop.TheVariants.{ReadFault, WriteFault, NoMemory, Refused}

abbrev pub stop_status : Stop → Status
stop_status ReadFault = status.ReadFault
stop_status WriteFault = status.WriteFault
stop_status NoMemory = status.NoMemory
stop_status Refused = status.Refused

-- how a run ends, by how the command ended
abbrev pub status_of : Result Unit Stop → Status
status_of (Ok _) = status.Done
status_of (Err stop) = stop_status stop

-- the fault that the command ended with: a read or a write fault, or none
abbrev pub stop_fault : Stop → Fault
stop_fault ReadFault = read_fault
stop_fault WriteFault = write_fault
stop_fault NoMemory = no_fault
stop_fault Refused = no_fault

abbrev pub fault_of : Result Unit Stop → Fault
fault_of (Ok _) = no_fault
fault_of (Err stop) = stop_fault stop
