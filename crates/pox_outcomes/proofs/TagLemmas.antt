-- What stands behind an element's name.
use Rattle.std.proofs.Common.{◌≡◌, ℕ, inl, inr, true, List, [], refl, sym, ◌∙◌, codes}
use Rattle.pox_outcomes.specs.Language.{StopsAt, Reads, Any, IsOnce}
use Rattle.pox_outcomes.specs.Markup.{IsMarkup, IsOneOf, are_words}
use Rattle.pox_outcomes.specs.Elements.{tag_starts, IsTag}
use Rattle.pox_outcomes.proofs.LanguageLemmas.{reads_as, reads_then}
use Rattle.pox_outcomes.proofs.SequenceLemmas.{Some, then_second, stops_named}
use Rattle.pox_outcomes.proofs.MarkupLemmas.{markup_one}
use Rattle.pox_outcomes.proofs.ChoiceLemmas.{nothing_behind, only_front, Two, two_here, two_second, two_once}

-- nothing stands there, and it says nothing
abbrev IsNothing : List ℕ → List ℕ → Type 0
IsNothing text bytes = (text ≡ []) × (bytes ≡ [])

module _ (start : List ℕ) (all : are_words (tag_starts start) ≡ true) (Inside : List ℕ → List ℕ → Type 0) where
  abbrev Whole : List ℕ → List ℕ → Type 0
  Whole = Two (tag_starts start) all refl IsNothing Inside

  to_tag : (text x : List ℕ) → Whole text x → IsTag start Inside text x
  to_tag text x (inl h) = inl (h.second.0, only_front x (then_second h h.second.1))
  to_tag text x (inr h) = inr h

  from_tag : (text x : List ℕ) → IsTag start Inside text x → Whole text x
  from_tag text x (inl h) = inl (let n = nothing_behind x h.1 in then_second n (h.0, n.second))
  from_tag text x (inr h) = inr h

  same_tag : {bytes : List ℕ} {n : ℕ} → StopsAt (Any Whole) bytes n → StopsAt (Any (IsTag start Inside)) bytes n
  same_tag s = stops_named Whole (IsTag start Inside) (λ v. v) (λ v. v) to_tag from_tag s

  pub tag_stops_start : Some (Any Inside) → {bytes : List ℕ} {n : ℕ} → StopsAt (IsOneOf (tag_starts start) 2) bytes n → StopsAt (Any (IsTag start Inside)) bytes n
  tag_stops_start one s = same_tag (two_here (tag_starts start) all refl IsNothing Inside ([], ([], (refl, refl))) one s)

  pub tag_stops_inside : {bytes rest : List ℕ} {n : ℕ} → Reads (IsMarkup start) bytes rest → StopsAt (Any Inside) rest n → StopsAt (Any (IsTag start Inside)) bytes n
  tag_stops_inside r s = same_tag (two_second (tag_starts start) all refl IsNothing Inside r s)

  pub tag_reads_inside : (text : List ℕ) {bytes rest behind : List ℕ} → Reads (IsMarkup start) bytes rest → Reads (Inside text) rest behind → Reads (IsTag start Inside text) bytes behind
  tag_reads_inside text r i = reads_as (λ x h. inr h) (reads_then r i)

  pub tag_some : Some (Any (IsTag start Inside))
  tag_some = let m = markup_one (codes " />") in (m.0, ([], inl (refl, m.1)))

  pub tag_once : IsOnce Inside → IsOnce (IsTag start Inside)
  tag_once once t u x y r s a b e =
      two_once (tag_starts start) all refl IsNothing Inside (λ t u x y r s a b e. (a.0 ∙ sym b.0, a.1 ∙ sym b.1)) once t u x y r s (from_tag t x a) (from_tag u y b) e
