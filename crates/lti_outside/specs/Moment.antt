-- Moments that a clock gives.
use Rattle.std.specs.Prelude.{◌≡◌, ℕ, ⊤, Option, None, Some}

-- the moment is the one that the clock tells, where it tells one
abbrev pub IsTold : Option ℕ → ℕ → Type 0
IsTold None moment = ⊤
IsTold (Some told) moment = moment ≡ told
