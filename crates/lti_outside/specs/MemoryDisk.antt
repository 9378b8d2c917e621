-- What a disk in memory tells.
use Rattle.std.specs.Prelude.{ℕ, List}
use Rattle.lti_outside.specs.DiskLog.{Log, State, state_of}
use Rattle.lti_outside.specs.declared.disk_call.DiskCall.{DiskCall}
use Rattle.lti_outside.specs.declared.memory_disk.MemoryDisk.{MemoryDisk}

-- its first bytes and its calls
abbrev pub log_of : MemoryDisk → Log
log_of disk = record { first = disk.first.list; calls = disk.calls.items }

-- its calls in order
abbrev pub calls_of : MemoryDisk → List DiskCall
calls_of disk = (log_of disk).calls

-- what is synced, what reads give, and what was written since
abbrev pub disk_state : MemoryDisk → State
disk_state disk = state_of (log_of disk)

-- how many of its calls have failed
abbrev pub disk_faults : MemoryDisk → ℕ
disk_faults disk = disk.faults
