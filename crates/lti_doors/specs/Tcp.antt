-- What a door on the network tells, and what its ends tell.
use Rattle.std.specs.Prelude.{None}
use Rattle.lti_outside.specs.Traffic.{Traffic}
use Rattle.lti_doors.specs.Standing.{Standing}
use Rattle.lti_doors.specs.declared.tcp_end.TcpEnd.{TcpEnd}
use Rattle.lti_doors.specs.declared.tcp_door.TcpDoor.{TcpDoor}

-- no bytes, and how often a read and a write have failed
abbrev pub tcp_traffic : {S : Type 0} → TcpEnd S → Traffic
tcp_traffic end = record { told = None; read_faults = end.read_faults; write_faults = end.write_faults }

-- no roll, and how often a call has failed
abbrev pub tcp_standing : {L C Stream : Type 0} → TcpDoor L C Stream → Standing
tcp_standing door = record { roll = None; faults = door.faults }
