-- What the program does by its words (this project's own).
use Rattle.std.specs.Prelude.{◌≡◌, ℕ, List, [], ◌∷◌, codes, bytes_eq, if◌then◌else◌, Option, Some, None}
use Rattle.lti_cmd.specs.declared.words.Asked.{Asked}
use Rattle.lti_cmd.specs.declared.words.Asked.TheVariants.{Help, Version, Work}

-- the one word that asks for a text, or any other words
abbrev pub IsAsked : List (List ℕ) → Asked → Type 0
IsAsked words Help = words ≡ codes "--help" ∷ []
IsAsked words Version = words ≡ codes "--version" ∷ []
IsAsked words Work = (words ≡ codes "--help" ∷ [] → ⊥) × (words ≡ codes "--version" ∷ [] → ⊥)

-- the second word of `passback`
abbrev pub address_in : List (List ℕ) → Option (List ℕ)
address_in (name ∷ address ∷ words) = if bytes_eq name (codes "passback") then Some address else None
address_in words = None
