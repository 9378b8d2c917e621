-- What a door in memory tells.
use Rattle.std.specs.Prelude.{◌≡◌, ◌+◌, ◌-◌, ◌^◌, ℕ, List, map, min, Some}
use Rattle.lti_outside.specs.Memory.{link_traffic}
use Rattle.lti_outside.specs.declared.memory_link.MemoryLink.{MemoryLink}
use Rattle.lti_doors.specs.Standing.{Roll, Standing}

-- The connections that came back, in order; how many are out; those that wait, in order; which calls of `next`
-- fail, counted from 0; how many calls there were, up to the end of a `u64`; and how many of them failed
pub record Doorway : Type 0 where
  pub done : List MemoryLink
  pub out : ℕ
  pub waiting : List MemoryLink
  pub failing : List ℕ
  pub calls : ℕ
  pub faults : ℕ

abbrev pub door_roll : Doorway → Roll
door_roll d = record { list = map link_traffic d.done; out = d.out; left = map link_traffic d.waiting }

-- what it tells as a door
abbrev pub door_standing : Doorway → Standing
door_standing d = record { roll = Some (door_roll d); faults = d.faults }

-- one more call was counted, and the same ones fail
abbrev pub NextCall : Doorway → Doorway → Type 0
NextCall before after = (after.calls ≡ min (before.calls + 1) (2 ^ 64 - 1)) × (after.failing ≡ before.failing)
