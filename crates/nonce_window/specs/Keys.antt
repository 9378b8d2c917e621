-- Keys that each have a number: their place in a list without repeats.
use Rattle.std.specs.Prelude.{◌≡◌, ◌<◌, ℕ, Bool, false, List, [], length, Option, Some, None, IfSome, bytes_eq, nat_eq, slice_index_or}

-- the key of this number
abbrev pub key_at : List (List ℕ) → ℕ → List ℕ
key_at keys n = slice_index_or keys n []

abbrev pub is_number : Option ℕ → ℕ → Bool
is_number None n = false
is_number (Some m) n = nat_eq m n

-- The number of the key, where it has one: of all numbers that are in use it is the one whose key this is.
pub record IsNumber (keys : List (List ℕ)) (key : List ℕ) (number : Option ℕ) : Type 0 where
  pub within : IfSome number (λ n. n < length keys)
  pub only : (n : ℕ) → n < length keys → is_number number n ≡ bytes_eq key (key_at keys n)
