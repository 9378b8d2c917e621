-- What is true of the list of a machine that began empty, and of what is kept beside it.
use Rattle.std.specs.Prelude.{◌≡◌, ◌<◌, ◌^◌, ℕ, false, ⊤, List, [], ◌∷◌, length, Option}
use Rattle.lti_machine.specs.declared.entry.Entry.{Entry}
use Rattle.lti_machine.specs.Nonces.{stands, stamp_of}
use Rattle.lti_machine.specs.Places.{IsIndexed}
use Rattle.lti_machine.specs.Rules.{high}

-- no entry's key and stamp stand again behind it
unfoldable pub NoRepeats : List Entry → Type 0
NoRepeats [] = ⊤
NoRepeats (e ∷ es) = (stands es e.key (stamp_of e) ≡ false) × NoRepeats es

-- nothing repeats, and the number of entries fits 32 bits
pub record IsKept (entries : List Entry) : Type 0 where
  pub alone : NoRepeats entries
  pub short : length entries < 2 ^ 32

-- the places and the greatest moment that the machine holds beside the list belong to it
pub record IsHeld (entries : List Entry) (place_of : ℕ → Option ℕ) (highest : ℕ) : Type 0 where
  pub kept : IsKept entries
  pub indexed : IsIndexed place_of entries
  pub greatest : highest ≡ high entries
