-- Elements that hold a text.
use Rattle.std.proofs.Common.{◌≡◌, ℕ, true, List, refl, codes}
use Rattle.pox_outcomes.specs.Language.{Reads, Any, IsOnce}
use Rattle.pox_outcomes.specs.Markup.{IsMarkup, is_plain}
use Rattle.pox_outcomes.specs.Texts.{IsText}
use Rattle.pox_outcomes.specs.Leaves.{IsLeaf}
use Rattle.pox_outcomes.proofs.LanguageLemmas.{reads_then}
use Rattle.pox_outcomes.proofs.SequenceLemmas.{Some, Before, before_some, before_once}
use Rattle.pox_outcomes.proofs.MarkupLemmas.{markup_one, free_markup}
use Rattle.pox_outcomes.proofs.TextLemmas.{text_some, text_once}
use Rattle.pox_outcomes.proofs.TagLemmas.{tag_some, tag_once, tag_reads_inside}

-- a text, and the closing of its end tag
abbrev pub Closed : List ℕ → List ℕ → List ℕ → Type 0
Closed closing = Before IsText (IsMarkup closing)

pub closed_some : (closing : List ℕ) → Some (Any (Closed closing))
closed_some closing = before_some IsText (IsMarkup closing) text_some (markup_one closing)

pub leaf_reads : (closing text : List ℕ) {bytes rest last behind : List ℕ} → Reads (IsMarkup (codes " >")) bytes rest → Reads (IsText text) rest last → Reads (IsMarkup closing) last behind → Reads (IsLeaf closing text) bytes behind
leaf_reads closing text a b c = tag_reads_inside (codes " >") refl (Closed closing) text a (reads_then b c)

pub leaf_some : (closing : List ℕ) → Some (Any (IsLeaf closing))
leaf_some closing = tag_some (codes " >") refl (Closed closing)

-- a leaf has one text
pub leaf_once : (closing : List ℕ) → is_plain closing ≡ true → IsOnce (IsLeaf closing)
leaf_once closing plain = tag_once (codes " >") refl (Closed closing) (before_once IsText (IsMarkup closing) text_once (free_markup closing plain))
