-- A score's text with its language.
use Rattle.std.proofs.Common.{◌≡◌, ℕ, true, List, length, refl, codes}
use Rattle.pox_outcomes.specs.Language.{Any, IsOnce}
use Rattle.pox_outcomes.specs.Markup.{IsMarkup, is_plain, are_words}
use Rattle.pox_outcomes.specs.Leaves.{IsLeaf}
use Rattle.pox_outcomes.specs.Scores.{IsTextString, IsBehindLanguage, IsScored}
use Rattle.pox_outcomes.proofs.SequenceLemmas.{Some, free_once, Behind, behind_some, behind_once, before_some, before_once}
use Rattle.pox_outcomes.proofs.MarkupLemmas.{markup_one, free_markup}
use Rattle.pox_outcomes.proofs.ChoiceLemmas.{two_some, two_once}
use Rattle.pox_outcomes.proofs.LeafLemmas.{leaf_some, leaf_once}

abbrev pub string_end : List ℕ
string_end = codes "/textString >"

abbrev pub language_end : List ℕ
language_end = codes "/language >"

abbrev pub string_word : List ℕ
string_word = codes " <textString"

-- the text string behind a language
abbrev pub Word : List ℕ → List ℕ → List ℕ → Type 0
Word closing = Behind (IsMarkup string_word) (IsTextString closing)

pub string_some : (closing : List ℕ) → Some (Any (IsTextString closing))
string_some closing = before_some (IsLeaf string_end) (IsMarkup closing) (leaf_some string_end) (markup_one closing)

pub word_some : (closing : List ℕ) → Some (Any (Word closing))
word_some closing = behind_some (IsMarkup string_word) (IsTextString closing) (markup_one string_word) (string_some closing)

pub language_some : (closing : List ℕ) → Some (Any (IsBehindLanguage closing))
language_some closing = behind_some (Any (IsLeaf language_end)) (Word closing) (leaf_some language_end) (word_some closing)

string_once : (closing : List ℕ) → is_plain closing ≡ true → IsOnce (IsTextString closing)
string_once closing plain = before_once (IsLeaf string_end) (IsMarkup closing) (leaf_once string_end refl) (free_markup closing plain)

language_once : (closing : List ℕ) → is_plain closing ≡ true → IsOnce (IsBehindLanguage closing)
language_once closing plain =
    behind_once (Any (IsLeaf language_end)) (Word closing) (free_once (leaf_once language_end refl))
    (behind_once (IsMarkup string_word) (IsTextString closing) (free_markup string_word refl) (string_once closing plain))

module _ (words : List (List ℕ)) (closing : List ℕ) (all : are_words words ≡ true) (two : length words ≡ 2) where
  pub score_some : Some (Any (IsScored words closing))
  score_some = two_some words all two (IsBehindLanguage closing) (IsTextString closing) (language_some closing)

  pub score_once : is_plain closing ≡ true → IsOnce (IsScored words closing)
  score_once plain = two_once words all two (IsBehindLanguage closing) (IsTextString closing) (language_once closing plain) (string_once closing plain)
