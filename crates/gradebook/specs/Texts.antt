-- Texts that each have a number: their place in a list without repeats.
use Rattle.std.specs.Prelude.{◌≡◌, ◌<◌, ◌≤◌, ℕ, Bool, false, List, [], length, Option, Some, None, IfSome, bytes_eq, nat_eq, slice_index_or}

-- the text of this number
abbrev pub text_at : List (List ℕ) → ℕ → List ℕ
text_at texts n = slice_index_or texts n []

-- the text has a number
pub record IsKnown (texts : List (List ℕ)) (text : List ℕ) : Type 0 where
  pub number : ℕ
  pub within : number < length texts
  pub is : text_at texts number ≡ text

abbrev pub is_number : Option ℕ → ℕ → Bool
is_number None n = false
is_number (Some m) n = nat_eq m n

-- The number of the text, where it has one: of all numbers that are in use it is the one whose text this is.
pub record IsNumber (texts : List (List ℕ)) (text : List ℕ) (number : Option ℕ) : Type 0 where
  pub within : IfSome number (λ n. n < length texts)
  pub only : (n : ℕ) → n < length texts → is_number number n ≡ bytes_eq text (text_at texts n)

-- each text keeps its number
pub record Keeps (before after : List (List ℕ)) : Type 0 where
  pub longer : length before ≤ length after
  pub same : (n : ℕ) → n < length before → text_at after n ≡ text_at before n
