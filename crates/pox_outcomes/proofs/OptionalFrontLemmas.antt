-- The start of a leaf that may be left out.
use Rattle.std.proofs.Common.{◌≡◌, ℕ, ◌<◌, inl, Bool, true, false, ◌==◌, List, [], length, MatchBool, refl}
use Rattle.pox_outcomes.specs.Language.{StopsAt, Reads, Any}
use Rattle.pox_outcomes.specs.Markup.{IsMarkup, IsOneOf, word_at, are_words}
use Rattle.pox_outcomes.specs.Leaves.{IsLeaf}
use Rattle.pox_outcomes.specs.Optional.{IsBehindWord, IsOptionalFront, ReadsOptional}
use Rattle.pox_outcomes.proofs.LanguageLemmas.{reads_then}
use Rattle.pox_outcomes.proofs.ChoiceLemmas.{code_words, leads_choice, stops_choice}
use Rattle.pox_outcomes.proofs.LeafLemmas.{leaf_some}

abbrev pub behind_word : Bool → List ℕ → List ℕ → Type 0
behind_word t closing bytes = MatchBool t (Any (IsLeaf closing) bytes) (bytes ≡ [])

behind_one : (t : Bool) (closing : List ℕ) → (y : List ℕ) × behind_word t closing y
behind_one true closing = leaf_some closing
behind_one false closing = ([], refl)

-- none of the words
pub front_stops_word : (words : List (List ℕ)) (closing bytes : List ℕ) (n : ℕ) → StopsAt (IsOneOf words (length words)) bytes n → StopsAt (IsOptionalFront words closing) bytes n
front_stops_word words closing bytes n s =
    stops_choice (λ place. IsMarkup (word_at words place)) (IsBehindWord closing) (length words) bytes n (λ place within. behind_one (place == 0) closing) s

-- no leaf behind the first word
pub front_stops_leaf : (words : List (List ℕ)) (closing bytes rest : List ℕ) (n : ℕ) → are_words words ≡ true → 0 < length words → Reads (IsMarkup (word_at words 0)) bytes rest → StopsAt (Any (IsLeaf closing)) rest n
    → StopsAt (IsOptionalFront words closing) bytes n
front_stops_leaf words closing bytes rest n all some_word reads s =
    (leads_choice (λ place. IsMarkup (word_at words place)) (IsBehindWord closing) (length words) 0 bytes rest (code_words words all) some_word reads).stops n s

pub optional_found : (words : List (List ℕ)) (closing text bytes rest behind : List ℕ) → Reads (IsMarkup (word_at words 0)) bytes rest → Reads (IsLeaf closing text) rest behind → ReadsOptional words closing text bytes behind
optional_found words closing text bytes rest behind word leaf = inl (reads_then word leaf)
