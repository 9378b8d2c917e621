-- What the readers say where they stop.
use Rattle.std.specs.Prelude.{ℕ, List, ⊤}
use Rattle.pox_outcomes.specs.Language.{StopsAt}
use Rattle.pox_outcomes.specs.declared.stops.Left.{Left}
use Rattle.pox_outcomes.specs.declared.stops.Halt.{Halt}
use Rattle.pox_outcomes.specs.declared.stops.Halt.TheVariants.{Stopped, NoMemory}

-- the bytes don't go on as a string of the set
abbrev pub IsStop : (List ℕ → Type 0) → List ℕ → Left → Type 0
IsStop L bytes stop = StopsAt L bytes stop.left

-- the same, or there was no memory
abbrev pub IsHalt : (List ℕ → Type 0) → List ℕ → Halt → Type 0
IsHalt L bytes (Stopped stop) = StopsAt L bytes stop.left
IsHalt L bytes NoMemory = ⊤
