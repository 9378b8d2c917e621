-- The code's tables of names, as lists of the vocabulary's.
use Rattle.std.specs.Prelude.{ℕ, List, map}
use denote.Ref.{Bor}
use Rattle.lti_roles.specs.declared.names.RoleName.{RoleName}
use Rattle.lti_roles.specs.Names.{Named}

-- each row with its text
abbrev pub names_in : List (Bor (List ℕ) × RoleName) → List Named
names_in rows = map (λ row. (row.0.now, row.1)) rows
