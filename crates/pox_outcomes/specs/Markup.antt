-- Markup with white space (XML 1.0, section 2.3).
use Rattle.std.specs.Prelude.{◌≡◌, ℕ, Bool, true, false, not, ◌&&◌, ◌||◌, ◌==◌, List, [], ◌∷◌, MatchBool, length, map, slice_index_or, if◌then◌else◌}
use Rattle.std.specs.List.{list_all}
use Rattle.std.specs.Borrow.{Bor}
use Rattle.pox_outcomes.specs.Language.{Then, IsAmong}

-- a space, a tab, CR or LF
abbrev pub is_white : ℕ → Bool
is_white b = b == 32 || b == 9 || b == 13 || b == 10

abbrev pub IsWhite : List ℕ → Type 0
IsWhite bytes = list_all is_white bytes ≡ true

-- In markup a space stands for any number of white bytes, and any other byte for itself.
abbrev pub IsPiece : ℕ → List ℕ → Type 0
IsPiece b bytes = MatchBool (b == 32) (IsWhite bytes) (bytes ≡ b ∷ [])

-- the bytes that the markup stands for
abbrev pub IsMarkup : List ℕ → List ℕ → Type 0
IsMarkup [] bytes = bytes ≡ []
IsMarkup (b ∷ markup) bytes = Then (IsPiece b) (IsMarkup markup) bytes

-- the text begins with a byte that isn't white
abbrev pub begins_dark : List ℕ → Bool
begins_dark [] = false
begins_dark (b ∷ text) = not (is_white b)

-- Behind each space of the markup stands a byte that isn't white, and no other byte is white.
abbrev pub is_plain : List ℕ → Bool
is_plain [] = true
is_plain (b ∷ markup) = (if b == 32 then begins_dark markup else not (is_white b)) && is_plain markup

-- what stands behind the white bytes in front
abbrev pub after_white : List ℕ → List ℕ
after_white [] = []
after_white (b ∷ bytes) = if is_white b then after_white bytes else b ∷ bytes

-- the text begins with another byte, or is empty
abbrev pub BeginsOtherwise : ℕ → List ℕ → Type 0
BeginsOtherwise b [] = Unit {0}
BeginsOtherwise b (c ∷ text) = c ≡ b → ⊥

-- the word at a place
abbrev pub word_at : List (List ℕ) → ℕ → List ℕ
word_at words place = slice_index_or words place []

-- the bytes that one of the first words stands for
abbrev pub IsOneOf : List (List ℕ) → ℕ → List ℕ → Type 0
IsOneOf words most = IsAmong (λ place. IsMarkup (word_at words place)) most

-- the lists behind references
abbrev pub behind : List (Bor (List ℕ)) → List (List ℕ)
behind words = map (λ word. word.now) words

-- without a space in front
abbrev pub strip : List ℕ → List ℕ
strip [] = []
strip (b ∷ m) = if b == 32 then m else b ∷ m

-- the first byte of the markup, or 0
abbrev pub first_of : List ℕ → ℕ
first_of [] = 0
first_of (b ∷ m) = b

abbrev pub rest_of : List ℕ → List ℕ
rest_of [] = []
rest_of (b ∷ m) = m

-- the markups differ at some byte, white bytes aside
abbrev pub differ : List ℕ → List ℕ → Bool
differ [] n = false
differ (b ∷ m) n =
    (not (b == 32) && not (length (strip n) == 0) && not (b == first_of (strip n)))
    || ((b == 32 || not (length (strip n) == 0)) && differ m (if b == 32 then strip n else rest_of (strip n)))

-- each pair of words differs
abbrev pub are_words : List (List ℕ) → Bool
are_words [] = true
are_words (word ∷ words) = is_plain word && list_all (λ other. differ word other) words && are_words words

-- the text begins with no white byte
abbrev pub BeginsDark : List ℕ → Type 0
BeginsDark [] = Unit {0}
BeginsDark (b ∷ text) = is_white b ≡ false

-- a white byte stands before the rest
pub record IsBehindWhite (bytes rest : List ℕ) : Type 0 where
  pub white : ℕ
  pub are : bytes ≡ white ∷ rest
  pub is : is_white white ≡ true
