-- Counts of faults. A count never falls, only a fault raises it, and it stays at the end of its type.
use Rattle.std.specs.Prelude.{◌≤◌, ◌+◌, ◌-◌, ◌^◌, ℕ, min}

-- a fault was counted: the count is greater than before, or stands at the end of its type
pub record Rose (before now : ℕ) : Type 0 where
  pub later : before ≤ now
  pub counted : min (before + 1) (2 ^ 64 - 1) ≤ now
