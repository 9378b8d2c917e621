-- Conditions in their order, each with the fault that it stands for.
use Rattle.std.specs.Prelude.{Bool, if◌then◌else◌, List, [], ◌∷◌, Option, None, Some, Result, Ok, Err}

-- a condition, and the fault where it holds
pub record Condition (F : Type 0) : Type 0 where
  pub holds : Bool
  pub fault : F

-- the fault of the first condition that holds
abbrev pub first_fault : {F : Type 0} → List (Condition F) → Option F
first_fault [] = None
first_fault (c ∷ cs) = if c.holds then Some c.fault else first_fault cs

-- the fault that was answered, if one was
abbrev pub fault_in : {T F : Type 0} → Result T F → Option F
fault_in (Ok value) = None
fault_in (Err fault) = Some fault
