-- What a door has to tell, and what a call does to it.
use Rattle.std.specs.Prelude.{◌≡◌, ◌<◌, ◌+◌, ◌-◌, ℕ, List, [], ◌∷◌, ◌++◌, ⊤, None, Some, Option}
use Rattle.lti_outside.specs.Faults.{Rose}
use Rattle.lti_outside.specs.Traffic.{Told, Traffic}

-- what passed over the connections that came back, in the order in which they did; how many ends are out; and what
-- the connections that are left tell, in the order in which they will be handed out
pub record Roll : Type 0 where
  pub list : List Traffic
  pub out : ℕ
  pub left : List Traffic

-- what a door has to tell: its roll, where it tells one, and how often a call has failed
pub record Standing : Type 0 where
  pub roll : Option Roll
  pub faults : ℕ

-- no byte was taken or given, as far as the end tells its bytes
abbrev pub IsUnused : Option Told → Type 0
IsUnused None = ⊤
IsUnused (Some told) = (told.taken ≡ []) × (told.given ≡ [])

-- nothing was taken from the end or given to it, and no fault was counted
abbrev pub IsFresh : Traffic → Type 0
IsFresh end = IsUnused end.told × (end.read_faults ≡ 0) × (end.write_faults ≡ 0)

abbrev pub RollHandsOut : Option Roll → Option Roll → Traffic → Type 0
RollHandsOut None after end = after ≡ None
RollHandsOut (Some before) after end =
    (more : List Traffic) × (before.left ≡ end ∷ more) × (after ≡ Some (record { list = before.list; out = before.out + 1; left = more }))

-- the first connection that was left is out now, and no fault was counted
abbrev pub HandsOut : Standing → Standing → Traffic → Type 0
HandsOut before after end = RollHandsOut before.roll after.roll end × (after.faults ≡ before.faults)

abbrev pub RollTakesBack : Option Roll → Option Roll → Traffic → Type 0
RollTakesBack None after end = after ≡ None
RollTakesBack (Some before) after end =
    after ≡ Some (record { list = before.list ++ end ∷ []; out = before.out - 1; left = before.left })

-- one end fewer is out, what passed over it joined the list, and no fault was counted
abbrev pub TakesBack : Standing → Standing → Traffic → Type 0
TakesBack before after end = RollTakesBack before.roll after.roll end × (after.faults ≡ before.faults)

abbrev pub RollIsOut : Option Roll → Type 0
RollIsOut None = ⊤
RollIsOut (Some roll) = 0 < roll.out

-- an end is out, as far as the door tells
abbrev pub IsOut : Standing → Type 0
IsOut standing = RollIsOut standing.roll

abbrev pub RollHasNoMore : Option Roll → Type 0
RollHasNoMore None = ⊤
RollHasNoMore (Some roll) = roll.left ≡ []

-- no connection is left, as far as the door tells
abbrev pub HasNoMore : Standing → Type 0
HasNoMore standing = RollHasNoMore standing.roll

-- a call failed: its fault was counted, and nothing else changed
abbrev pub Fails : Standing → Standing → Type 0
Fails before after = (after.roll ≡ before.roll) × Rose before.faults after.faults
