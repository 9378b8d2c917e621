-- The body of an answer.
use Rattle.std.proofs.Common.{◌≡◌, ◌≢◌, ℕ, ◌≤◌, ◌⊎◌, inl, inr, true, false, List, [], ◌∷◌, ◌++◌, length, bytes_eq, append_assoc, refl, sym, ap, ◌∙◌, subst, arith, codes}
use Rattle.std.specs.Char.{is_ascii_alphabetic}
use Rattle.std.proofs.lemmas.Bool.{false≢true}
use Rattle.std.proofs.lemmas.Slice.Eq.{bytes_eq-Decides}
use Rattle.pox_outcomes.specs.Language.{Then, StopsAt, Reads, Any, IsOnce}
use Rattle.pox_outcomes.specs.Markup.{IsMarkup, is_plain, BeginsOtherwise}
use Rattle.pox_outcomes.specs.Characters.{begins}
use Rattle.pox_outcomes.specs.Scores.{IsScored}
use Rattle.pox_outcomes.specs.Elements.{is_element_byte, after_element_name, IsTag, IsEndTag}
use Rattle.pox_outcomes.specs.Body.{read_result, results, result_end, IsInside, IsElement, IsContent, IsBody}
use Rattle.pox_outcomes.proofs.LanguageLemmas.{IsPrefixFree, IsElsewhere, stops_beside, stops_same, flipped, first_byte, elsewhere_byte}
use Rattle.pox_outcomes.proofs.SequenceLemmas.{Some, parts_same, stops_named, Before, before_once}
use Rattle.pox_outcomes.proofs.RunLemmas.{IsRun, RunOf, leads_run_of, run_parts}
use Rattle.pox_outcomes.proofs.MarkupLemmas.{markup_one, free_markup}
use Rattle.pox_outcomes.proofs.TextLemmas.{by_apart}
use Rattle.pox_outcomes.proofs.TagLemmas.{tag_some, tag_once}
use Rattle.pox_outcomes.proofs.ScoreLemmas.{score_once}
use Rattle.pox_outcomes.proofs.ElementLemmas.{end_tag_one, end_tag_first, end_tag_once, plain_name, tag_outside, Named}

-- ---- an end tag, or something else

abbrev BeginsByte : ℕ → List ℕ → Type 0
BeginsByte b x = (t : List ℕ) × (x ≡ b ∷ t)

-- the text begins with another byte than `/`
abbrev BeginsBeside : List ℕ → Type 0
BeginsBeside x = (b : ℕ) × BeginsByte b x × (b ≡ 47 → ⊥)

-- The strings of A begin with `/`, and those of L don't.
module _ (A : List ℕ → Type 0) (L : List ℕ → List ℕ → Type 0) (slash : (x : List ℕ) → A x → BeginsByte 47 x) (beside : (text x : List ℕ) → L text x → BeginsBeside x) where
  abbrev Ending : List ℕ → List ℕ → Type 0
  Ending text x = ((text ≡ []) × A x) ⊎ L text x

  to_ending : (x : List ℕ) → A x ⊎ Any L x → Any Ending x
  to_ending x (inl a) = ([], inl (refl, a))
  to_ending x (inr l) = (l.0, inr l.1)

  from_ending : (text x : List ℕ) → Ending text x → A x ⊎ Any L x
  from_ending text x (inl h) = inl h.1
  from_ending text x (inr l) = inr (text, l)

  ending_some : Some A → Some (Any Ending)
  ending_some a = (a.0, to_ending a.0 (inl a.1))

  -- behind a `/`
  ending_stops : {bytes t : List ℕ} {n : ℕ} → bytes ≡ 47 ∷ t → StopsAt A bytes n → StopsAt (Any Ending) bytes n
  ending_stops {bytes = bytes} {t = t} {n = n} is s = stops_same bytes n to_ending (λ x h. from_ending h.0 x h.1) (stops_beside bytes n elsewhere s) where
    elsewhere : IsElsewhere (Any L) bytes
    elsewhere p q r d e =
        let first = beside d.0 (p ++ q) d.1 in
        let other : BeginsOtherwise first.0 bytes = subst (BeginsOtherwise first.0) (sym is) (λ same. first.2 (sym same)) in
        elsewhere_byte first.0 bytes p q r first.1.0 other first.1.1 e

  -- without one
  ending_stops_other : {bytes : List ℕ} {n : ℕ} → BeginsOtherwise 47 bytes → StopsAt (Any L) bytes n → StopsAt (Any Ending) bytes n
  ending_stops_other {bytes = bytes} {n = n} other s =
      stops_same bytes n (λ x h. to_ending x (flipped h)) (λ x h. flipped (from_ending h.0 x h.1))
      (stops_beside bytes n (λ p q r d e. let first = slash (p ++ q) d in elsewhere_byte 47 bytes p q r first.0 other first.1 e) s)

  ending_apart : (text x y r s : List ℕ) → A x → L text y → x ++ r ≡ y ++ s → ⊥
  ending_apart text x y r s a l e =
      let first = slash x a in
      let other = beside text y l in
      let whole : 47 ∷ (first.0 ++ r) ≡ other.0 ∷ (other.1.0 ++ s) = ap (λ k. k ++ r) (sym first.1) ∙ e ∙ ap (λ k. k ++ s) other.1.1 in
      let head : other.0 ≡ 47 = cc in
      other.2 head

  ending_once : IsPrefixFree A → IsOnce L → IsOnce Ending
  ending_once free once t u x y r s (inl a) (inl b) e = (a.0 ∙ sym b.0, free x y r s a.1 b.1 e)
  ending_once free once t u x y r s (inl a) (inr b) e = absurd (ending_apart u x y r s a.1 b e)
  ending_once free once t u x y r s (inr a) (inl b) e = absurd (ending_apart t y x s r b.1 a (sym e))
  ending_once free once t u x y r s (inr a) (inr b) e = once t u x y r s a b e

-- ---- inside of an element

abbrev Scored : List ℕ → List ℕ → List ℕ → Type 0
Scored name score bytes = (name ≡ read_result) × IsScored results result_end score bytes

-- a score begins with a letter
scored_beside : (name score x : List ℕ) → Scored name score x → BeginsBeside x
scored_beside name score x h = score_beside x h.1 where
  score_beside : (x : List ℕ) → IsScored results result_end score x → BeginsBeside x
  score_beside x (inl h) = (114, (h.first.back ++ h.back, h.are ∙ ap (λ t. t ++ h.back) (h.first.are ∙ ap (λ t. t ++ h.first.back) h.first.first)), λ e. omega (arith, e))
  score_beside x (inr h) = (114, (h.first.back ++ h.back, h.are ∙ ap (λ t. t ++ h.back) (h.first.are ∙ ap (λ t. t ++ h.first.back) h.first.first)), λ e. omega (arith, e))

pub inside_some : (name : List ℕ) → Some (Any (IsInside name))
inside_some name = ending_some (IsEndTag name) (Scored name) (end_tag_first name) (scored_beside name) (end_tag_one name)

pub inside_stops_end : (name : List ℕ) {bytes t : List ℕ} {n : ℕ} → bytes ≡ 47 ∷ t → StopsAt (IsEndTag name) bytes n → StopsAt (Any (IsInside name)) bytes n
inside_stops_end name is s = ending_stops (IsEndTag name) (Scored name) (end_tag_first name) (scored_beside name) is s

pub inside_stops_score : (name : List ℕ) {bytes : List ℕ} {n : ℕ} → BeginsOtherwise 47 bytes → name ≡ read_result → StopsAt (Any (IsScored results result_end)) bytes n → StopsAt (Any (IsInside name)) bytes n
inside_stops_score name other named s =
    ending_stops_other (IsEndTag name) (Scored name) (end_tag_first name) (scored_beside name) other
    (stops_named (IsScored results result_end) (Scored name) (λ v. v) (λ v. v) (λ v x h. (named, h)) (λ v x h. h.1) s)

pub inside_stops_other : (name bytes : List ℕ) → BeginsOtherwise 47 bytes → bytes_eq name read_result ≡ false → StopsAt (Any (IsInside name)) bytes (length bytes)
inside_stops_other name bytes other unnamed = record {
  front = [];
  rest = bytes;
  are = refl;
  left_is = refl;
  begins = inside_some name;
  apart = λ p q r d e. none_apart p q r d.0 d.1 e;
} where
  none_apart : (p q r text : List ℕ) → IsInside name text (p ++ q) → bytes ≡ p ++ r → (length bytes ≤ length r) × (q ≢ [])
  none_apart p q r text (inl h) e =
      let first = end_tag_first name (p ++ q) h.1 in
      let far = elsewhere_byte 47 bytes p q r first.0 other first.1 e in
      let same : length bytes ≡ length r = ap length (e ∙ ap (λ t. t ++ r) far.0) in
      (omega (arith, same), far.1)
  none_apart p q r text (inr h) e = absurd (false≢true (sym unnamed ∙ (bytes_eq-Decides name read_result).1 h.0))

pub named_result : (name : List ℕ) → bytes_eq name read_result ≡ true → name ≡ read_result
named_result name is = (bytes_eq-Decides name read_result).0 is

inside_once : (name : List ℕ) → is_plain name ≡ true → IsOnce (IsInside name)
inside_once name plain =
    ending_once (IsEndTag name) (Scored name) (end_tag_first name) (scored_beside name) (end_tag_once name plain) (λ t u x y r s a b e. score_once results result_end refl refl refl t u x y r s a.1 b.1 e)

-- ---- an element

abbrev pub Tagged : List ℕ → List ℕ → List ℕ → Type 0
Tagged name = IsTag (codes " > <") (IsInside name)

abbrev Behind : List ℕ → List ℕ → Type 0
Behind name bytes = (begins is_ascii_alphabetic name ≡ true) × Any (Tagged name) bytes

to_element : (x : List ℕ) → RunOf is_element_byte Behind x → Any IsElement x
to_element x h = (h.is.1.0, record { name = h.front; rest = h.back; are = h.are; name_is = record { start = h.is.0; bytes = h.run }; behind = h.is.1.1 })

from_element : (score x : List ℕ) → IsElement score x → RunOf is_element_byte Behind x
from_element score x a = record { front = a.name; back = a.rest; are = a.are; run = a.name_is.bytes; is = (a.name_is.start, (score, a.behind)) }

pub element_stops : {bytes : List ℕ} (n : Named bytes) {left : ℕ} → StopsAt (Any (Tagged n.name)) (after_element_name bytes) left → StopsAt (Any IsElement) bytes left
element_stops {bytes = bytes} n {left = left} s =
    let leads = leads_run_of {B = Behind} is_element_byte bytes n.name (after_element_name bytes) n.are n.is.bytes n.outside (λ f x b. tag_outside (IsInside f) b.1.0 x b.1.1) in
    stops_same bytes left to_element (λ x h. from_element h.0 x h.1) (leads.stops left (stops_same (after_element_name bytes) left (λ x h. (n.is.start, h)) (λ x h. h.1) s))

pub element_reads : {bytes : List ℕ} (n : Named bytes) (score : List ℕ) {behind : List ℕ} → Reads (Tagged n.name score) (after_element_name bytes) behind → Reads (IsElement score) bytes behind
element_reads n score {behind = behind} r = record {
  front = n.name ++ r.front;
  are = n.are ∙ ap (λ t. n.name ++ t) r.are ∙ sym (append_assoc n.name r.front behind);
  is = record { name = n.name; rest = r.front; are = refl; name_is = n.is; behind = r.is };
}

element_first : (score x : List ℕ) → IsElement score x → begins is_ascii_alphabetic x ≡ true
element_first score x a = subst (λ t. begins is_ascii_alphabetic t ≡ true) (sym a.are) (front_first a.name a.rest a.name_is.start) where
  front_first : (name rest : List ℕ) → begins is_ascii_alphabetic name ≡ true → begins is_ascii_alphabetic (name ++ rest) ≡ true
  front_first [] rest start = absurd (false≢true start)
  front_first (b ∷ name) rest start = start

element_some : Some (Any IsElement)
element_some =
    let t = tag_some (codes " > <") refl (IsInside (codes "a")) in
    (codes "a" ++ t.0, (t.1.0, record { name = codes "a"; rest = t.0; are = refl; name_is = record { start = refl; bytes = refl }; behind = t.1.1 }))

pub element_fails : (bytes : List ℕ) → begins is_ascii_alphabetic bytes ≡ false → StopsAt (Any IsElement) bytes (length bytes)
element_fails bytes fails = record {
  front = [];
  rest = bytes;
  are = refl;
  left_is = refl;
  begins = element_some;
  apart = λ p q r d e. by_apart is_ascii_alphabetic bytes p q r fails (element_first d.0 (p ++ q) d.1) e;
}

-- the name, and what stands behind it
abbrev element_parts : (score x : List ℕ) (a : IsElement score x) → Then (IsRun is_element_byte) (Tagged a.name score) x
element_parts score x a = record { front = a.name; back = a.rest; are = a.are; first = a.name_is.bytes; second = a.behind }

pub element_once : IsOnce IsElement
element_once t u x y r s a b e =
    let pa = element_parts t x a in
    let pb = element_parts u y b in
    let same = run_parts is_element_byte r s pa pb (tag_outside (IsInside a.name) t a.rest a.behind) (tag_outside (IsInside b.name) u b.rest b.behind) e in
    let there : Tagged b.name t a.rest = subst (λ k. Tagged k t a.rest) same.0 a.behind in
    let next = tag_once (codes " > <") refl (IsInside b.name) (inside_once b.name (plain_name b.name b.name_is.bytes)) t u a.rest b.rest r s there b.behind same.1 in
    (next.0, parts_same pa pb same.0 next.1)

-- ---- inside of the body

abbrev pub closing : List ℕ
closing = codes " </imsx_POXBody >"

abbrev ending : List ℕ
ending = codes "/imsx_POXBody >"

abbrev One : List ℕ → List ℕ → Type 0
One = Before IsElement (IsMarkup closing)

ending_first : (x : List ℕ) → IsMarkup ending x → BeginsByte 47 x
ending_first x h = (h.back, h.are ∙ ap (λ t. t ++ h.back) h.first)

one_beside : (score x : List ℕ) → One score x → BeginsBeside x
one_beside score x h =
    let first = first_byte is_ascii_alphabetic h.front (element_first score h.front h.first) in
    (first.0, (first.1 ++ h.back, h.are ∙ ap (λ t. t ++ h.back) first.2), λ e. false≢true (ap is_ascii_alphabetic (sym e) ∙ first.3))

pub content_some : Some (Any IsContent)
content_some = ending_some (IsMarkup ending) One ending_first one_beside (markup_one ending)

pub content_stops_end : {bytes t : List ℕ} {n : ℕ} → bytes ≡ 47 ∷ t → StopsAt (IsMarkup ending) bytes n → StopsAt (Any IsContent) bytes n
content_stops_end is s = ending_stops (IsMarkup ending) One ending_first one_beside is s

pub content_stops_one : {bytes : List ℕ} {n : ℕ} → BeginsOtherwise 47 bytes → StopsAt (Any (Before IsElement (IsMarkup closing))) bytes n → StopsAt (Any IsContent) bytes n
content_stops_one other s = ending_stops_other (IsMarkup ending) One ending_first one_beside other s

content_once : IsOnce IsContent
content_once = ending_once (IsMarkup ending) One ending_first one_beside (free_markup ending refl) (before_once IsElement (IsMarkup closing) element_once (free_markup closing refl))

-- ---- the body

pub body_once : IsOnce IsBody
body_once = tag_once (codes " > <") refl IsContent content_once

pub body_some : Some (Any IsBody)
body_some = tag_some (codes " > <") refl IsContent
