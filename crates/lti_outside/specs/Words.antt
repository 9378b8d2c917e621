-- Random words that come from a list.
use Rattle.std.specs.Prelude.{◌≡◌, ℕ, List, [], ◌∷◌, drop, Option, None, Some}
use Rattle.lti_outside.specs.declared.random.ListRandom.{ListRandom}

-- a word was drawn: the first of those told, which then leaves them, or 0 where none is left
abbrev pub Draws : Option (List ℕ) → Option (List ℕ) → ℕ → Type 0
Draws None after word = after ≡ None
Draws (Some []) after word = (word ≡ 0) × (after ≡ Some [])
Draws (Some (w ∷ ws)) after word = (word ≡ w) × (after ≡ Some ws)

-- the words that a list of words has left
abbrev pub words_left : ListRandom → List ℕ
words_left random = drop random.place random.words.items
