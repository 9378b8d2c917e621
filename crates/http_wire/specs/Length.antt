-- What reading the length of a body answers.
use Rattle.std.specs.Prelude.{◌≡◌, ℕ, false, true, List, Option, Result, Ok, Err}
use Rattle.lti_outside.specs.declared.limits.Limits.{Limits}
use Rattle.http_wire.specs.declared.fault.WireFault.{WireFault}
use Rattle.http_wire.specs.declared.fault.WireFault.TheVariants.{BadLength}
use Rattle.http_wire.specs.Reading.{Judges}
use Rattle.http_wire.specs.Headers.{is_bad_length, length_said, length_in}
use Rattle.http_wire.specs.Head.{length_conditions}

-- the length that the values of `Content-Length` say, where one stands
abbrev pub LengthSaid : List (List ℕ) → Result (Option ℕ) WireFault → Type 0
LengthSaid values (Ok said) = (is_bad_length values ≡ false) × (said ≡ length_said values)
LengthSaid values (Err BadLength) = is_bad_length values ≡ true
LengthSaid values (Err fault) = ⊥

-- the length of a request's body, or the first fault of it
abbrev pub LengthTells : Limits → List ℕ → List (List ℕ) → Result ℕ WireFault → Type 0
LengthTells limits method values result = Judges (length_conditions limits method values) (λ length. length ≡ length_in values) ⊥ result
