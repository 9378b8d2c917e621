-- What requests and answers have in common.
use Rattle.std.proofs.Common.{◌≡◌, ℕ, true, false, List, refl}
use Rattle.pox_outcomes.specs.Language.{Any, IsOnce}
use Rattle.pox_outcomes.specs.Markup.{IsMarkup, is_plain, are_words}
use Rattle.pox_outcomes.specs.Attributes.{IsAttributes}
use Rattle.pox_outcomes.specs.Declaration.{IsOpening}
use Rattle.pox_outcomes.specs.Leaves.{IsLeaf}
use Rattle.pox_outcomes.specs.Document.{message_end, IsHead}
use Rattle.pox_outcomes.proofs.SequenceLemmas.{Some, Behind, behind_some, behind_once}
use Rattle.pox_outcomes.proofs.MarkupLemmas.{markup_one, free_markup}
use Rattle.pox_outcomes.proofs.LeafLemmas.{leaf_some, leaf_once}
use Rattle.pox_outcomes.proofs.DeclarationLemmas.{starts, free_opening}
use Rattle.pox_outcomes.proofs.AttributeLemmas.{attributes_one, free_attributes}

-- from the header on, and from the attributes on
abbrev pub Headed : List ℕ → List ℕ → List ℕ → Type 0
Headed header = Behind (IsMarkup header) (IsLeaf message_end)

abbrev pub Named : List ℕ → List ℕ → List ℕ → Type 0
Named header = Behind (IsAttributes false) (Headed header)

pub headed_some : (header : List ℕ) → Some (Any (Headed header))
headed_some header = behind_some (IsMarkup header) (IsLeaf message_end) (markup_one header) (leaf_some message_end)

pub named_some : (header : List ℕ) → Some (Any (Named header))
named_some header = behind_some (IsAttributes false) (Headed header) attributes_one (headed_some header)

-- the head has one message identifier
pub head_once : (root header : List ℕ) → are_words (starts root) ≡ true → is_plain header ≡ true → IsOnce (IsHead root header)
head_once root header all plain =
    behind_once (IsOpening root) (Named header) (free_opening root all)
    (behind_once (IsAttributes false) (Headed header) (free_attributes false) (behind_once (IsMarkup header) (IsLeaf message_end) (free_markup header plain) (leaf_once message_end refl)))
