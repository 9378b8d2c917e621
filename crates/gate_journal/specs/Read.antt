-- Where a journal stands as it is read, and what hinders the reading.
use Rattle.std.specs.Prelude.{◌≡◌, ◌⊎◌, ℕ}
use Rattle.gate_journal.specs.Half.{Place}
use Rattle.gate_journal.specs.declared.heads.Current.{Current}
use Rattle.gate_journal.specs.declared.mount_fault.MountFault.{MountFault}
use Rattle.gate_journal.specs.declared.mount_fault.MountFault.TheVariants as fault

-- by the current half, and the place of its end gate
abbrev pub place_read : ℕ → Current → ℕ → Place
place_read half current gate = record { half = half; second = current.is_second; generation = current.generation; gate = gate }

-- the fault isn't in what stands on the disk: a call of the disk failed, or memory was wanting
abbrev pub IsHindrance : MountFault → Type 0
IsHindrance why = (why ≡ fault.DiskFault) ⊎ (why ≡ fault.NoMemory)
