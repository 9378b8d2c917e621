-- References to characters.
use Rattle.std.proofs.Common.{◌≡◌, ℕ, zero, suc, ◌<◌, ◌⊎◌, inl, inr, ⊎_elim, Bool, true, false, ◌==◌, List, [], ◌∷◌, ◌++◌, slice_index, MatchBool, refl, sym, ap, ◌∙◌, subst, arith, codes}
use Rattle.std.specs.List.{list_all}
use Rattle.std.proofs.lemmas.Bool.{false≢true, cases_Bool}
use Rattle.lti_outside.proofs.BoolLemmas.{and_split}
use Rattle.pox_outcomes.specs.Language.{Then, StopsAt, Reads, IsAmong, IsOnce}
use Rattle.pox_outcomes.specs.Markup.{IsMarkup, word_at, BeginsOtherwise}
use Rattle.pox_outcomes.specs.References.{is_digit, IsNumber, IsNumeral, IsClosing, IsReference, openings, named}
use Rattle.pox_outcomes.proofs.LanguageLemmas.{Leads, after_leads, stops_beside, stops_same, reads_as, reads_then, elsewhere_byte}
use Rattle.pox_outcomes.proofs.ChoiceLemmas.{IsCode, IsChoice, code_words, leads_choice, stops_choice, choice_once}
use Rattle.pox_outcomes.proofs.NumberLemmas.{IsSome, goes_on, number_once}

abbrev pub IsSomeNumeral : List ℕ → Type 0
IsSomeNumeral bytes = (code : ℕ) × IsNumeral code bytes

abbrev pub IsSomeReference : List ℕ → Type 0
IsSomeReference bytes = (code : ℕ) × IsReference code bytes

letter_x : (x : List ℕ) → IsMarkup (codes "x") x → x ≡ 120 ∷ []
letter_x x m = m.are ∙ ap (λ t. t ++ m.back) m.first ∙ ap (λ t. 120 ∷ t) m.second

markup_x : IsMarkup (codes "x") (120 ∷ [])
markup_x = record { front = 120 ∷ []; back = []; are = refl; first = refl; second = refl }

no_x : (code : ℕ) (digits x r s : List ℕ) → x ≡ digits ++ codes ";" → list_all (is_digit 10) digits ≡ true → x ++ r ≡ 120 ∷ s → ⊥
no_x code [] x r s are all e =
    let head : ◌≡◌ {A = List ℕ} (59 ∷ r) (120 ∷ s) = ap (λ t. t ++ r) (sym are) ∙ e in
    let same : ◌≡◌ {A = ℕ} 59 120 = cc in
    omega (arith, same)
no_x code (d ∷ digits) x r s are all e =
    let head : d ∷ ((digits ++ codes ";") ++ r) ≡ 120 ∷ s = ap (λ t. t ++ r) (sym are) ∙ e in
    let same : d ≡ 120 = cc in
    false≢true (ap (is_digit 10) (sym same) ∙ (and_split (is_digit 10 d) (list_all (is_digit 10) digits) all).0)

x_out : (code : ℕ) (d r s : List ℕ) → IsNumeral code d → d ++ r ≡ (120 ∷ []) ++ s → (y : List ℕ) × (d ≡ (120 ∷ []) ++ y) × IsSome 16 0 y
x_out code d r s (inl n) e =
    (n.back, n.are ∙ ap (λ t. t ++ n.back) (letter_x n.front n.first), (code, n.second))
x_out code d r s (inr n) e = absurd (no_x code n.digits d r s n.are n.in_base e)

-- behind the `x`
pub leads_x : (bytes digits : List ℕ) → bytes ≡ 120 ∷ digits → Leads IsSomeNumeral bytes (IsSome 16 0) digits
leads_x bytes digits is = after_leads bytes (120 ∷ []) digits is (record {
  into = λ y n. (n.0, inl (record { front = 120 ∷ []; back = y; are = refl; first = markup_x; second = n.1 }));
  out = λ d r s n e. x_out n.0 d r s n.1 e;
})

pub reads_x : (code : ℕ) {bytes digits rest : List ℕ} → bytes ≡ 120 ∷ digits → Reads (IsNumber 16 0 code) digits rest → Reads (IsNumeral code) bytes rest
reads_x code is reads = record {
  front = 120 ∷ reads.front;
  are = is ∙ ap (λ t. 120 ∷ t) reads.are;
  is = inl (record { front = 120 ∷ []; back = reads.front; are = refl; first = markup_x; second = reads.is });
}

numeral_to : (x : List ℕ) → IsSome 10 0 x ⊎ ((code : ℕ) × Then (IsMarkup (codes "x")) (IsNumber 16 0 code) x) → IsSomeNumeral x
numeral_to x (inl n) = (n.0, inr n.1)
numeral_to x (inr n) = (n.0, inl n.1)

numeral_from : (code : ℕ) (x : List ℕ) → IsNumeral code x → IsSome 10 0 x ⊎ ((code : ℕ) × Then (IsMarkup (codes "x")) (IsNumber 16 0 code) x)
numeral_from code x (inl n) = inr (code, n)
numeral_from code x (inr n) = inl (code, n)

-- without an `x`
pub stops_ten : (bytes : List ℕ) (n : ℕ) → BeginsOtherwise 120 bytes → StopsAt (IsSome 10 0) bytes n → StopsAt IsSomeNumeral bytes n
stops_ten bytes n other s = stops_same bytes n numeral_to (λ x m. numeral_from m.0 x m.1)
    (stops_beside bytes n (λ p q r d e. elsewhere_byte 120 bytes p q r d.1.back other (d.1.are ∙ ap (λ t. t ++ d.1.back) (letter_x d.1.front d.1.first)) e) s)

-- ---- the whole reference

abbrev Opens : ℕ → List ℕ → Type 0
Opens place = IsMarkup (word_at openings place)

abbrev pub IsSomeClosing : ℕ → List ℕ → Type 0
IsSomeClosing place bytes = (code : ℕ) × IsClosing place code bytes

abbrev closes : Bool → ℕ → ℕ → List ℕ → Type 0
closes t place code bytes = MatchBool t (IsNumeral code bytes) ((code ≡ slice_index named place) × (bytes ≡ []))

closing_one : (place : ℕ) → (y : List ℕ) × IsSomeClosing place y
closing_one place =
    ⊎_elim
    (λ (h : (place == 5) ≡ true).
    let n = goes_on 10 0 (inl refl) (omega arith) in
    (n.0, (n.1.0, subst (λ t. closes t place n.1.0 n.0) (sym h) (inr n.1.1))))
    (λ (h : (place == 5) ≡ false).
    ([], (slice_index named place, subst (λ t. closes t place (slice_index named place) []) (sym h) (refl, refl))))
    (cases_Bool (place == 5))

code_openings : IsCode Opens 6
code_openings = code_words openings refl

to_reference : (x : List ℕ) → IsChoice Opens 6 IsSomeClosing x → IsSomeReference x
to_reference x h = (h.2.second.0, (h.0, h.1, record { front = h.2.front; back = h.2.back; are = h.2.are; first = h.2.first; second = h.2.second.1 }))

from_reference : (x : List ℕ) → IsSomeReference x → IsChoice Opens 6 IsSomeClosing x
from_reference x h = (h.1.0, h.1.1, record { front = h.1.2.front; back = h.1.2.back; are = h.1.2.are; first = h.1.2.first; second = (h.0, h.1.2.second) })

pub reference_stops : (bytes : List ℕ) (n : ℕ) → StopsAt (IsAmong Opens 6) bytes n → StopsAt IsSomeReference bytes n
reference_stops bytes n s = stops_same bytes n to_reference from_reference (stops_choice Opens IsSomeClosing 6 bytes n (λ place within. closing_one place) s)

pub numeral_stops : (bytes rest : List ℕ) (n : ℕ) → Reads (Opens 5) bytes rest → StopsAt IsSomeNumeral rest n → StopsAt IsSomeReference bytes n
numeral_stops bytes rest n reads s =
    stops_same bytes n to_reference from_reference ((leads_choice Opens IsSomeClosing 6 5 bytes rest code_openings (omega arith) reads).stops n s)

pub numeral_reads : (code : ℕ) {bytes rest behind : List ℕ} → Reads (Opens 5) bytes rest → Reads (IsNumeral code) rest behind → Reads (IsReference code) bytes behind
numeral_reads code opened reads = reads_as (λ x h. (5, omega arith, h)) (reads_then opened reads)

-- ---- each reference is to one character

numeral_once : IsOnce IsNumeral
numeral_once c d x y r s (inl m) (inl n) e =
    let em : x ++ r ≡ 120 ∷ (m.back ++ r) = ap (λ t. t ++ r) (m.are ∙ ap (λ t. t ++ m.back) (letter_x m.front m.first)) in
    let en : y ++ s ≡ 120 ∷ (n.back ++ s) = ap (λ t. t ++ s) (n.are ∙ ap (λ t. t ++ n.back) (letter_x n.front n.first)) in
    let whole : 120 ∷ (m.back ++ r) ≡ 120 ∷ (n.back ++ s) = sym em ∙ e ∙ en in
    let tails : m.back ++ r ≡ n.back ++ s = cc in
    let once = number_once 16 0 c d m.back n.back r s (omega arith) m.second n.second tails in
    (once.0, m.are ∙ ap (λ t. t ++ m.back) (letter_x m.front m.first ∙ sym (letter_x n.front n.first)) ∙ ap (λ t. n.front ++ t) once.1 ∙ sym n.are)
numeral_once c d x y r s (inl m) (inr n) e =
    let em : x ++ r ≡ 120 ∷ (m.back ++ r) = ap (λ t. t ++ r) (m.are ∙ ap (λ t. t ++ m.back) (letter_x m.front m.first)) in
    absurd (no_x d n.digits y s (m.back ++ r) n.are n.in_base (sym e ∙ em))
numeral_once c d x y r s (inr m) (inl n) e =
    let en : y ++ s ≡ 120 ∷ (n.back ++ s) = ap (λ t. t ++ s) (n.are ∙ ap (λ t. t ++ n.back) (letter_x n.front n.first)) in
    absurd (no_x c m.digits x r (n.back ++ s) m.are m.in_base (e ∙ en))
numeral_once c d x y r s (inr m) (inr n) e = number_once 10 0 c d x y r s (omega arith) m n e

closing_once : (t : Bool) (place : ℕ) → IsOnce (closes t place)
closing_once true place = numeral_once
closing_once false place = λ c d x y r s a b e. (a.0 ∙ sym b.0, a.1 ∙ sym b.1)

pub reference_once : IsOnce IsReference
reference_once = choice_once Opens IsClosing 6 code_openings (λ place. closing_once (place == 5) place)

opening_mark : (place : ℕ) → place < 6 → (m : List ℕ) × (word_at openings place ≡ 38 ∷ m)
opening_mark zero within = (codes "lt;", refl)
opening_mark (suc zero) within = (codes "gt;", refl)
opening_mark (suc (suc zero)) within = (codes "amp;", refl)
opening_mark (suc (suc (suc zero))) within = (codes "apos;", refl)
opening_mark (suc (suc (suc (suc zero)))) within = (codes "quot;", refl)
opening_mark (suc (suc (suc (suc (suc zero))))) within = (codes "#", refl)
opening_mark (suc (suc (suc (suc (suc (suc place)))))) within = absurd (omega arith)

mark_front : (m x : List ℕ) → IsMarkup (38 ∷ m) x → (t : List ℕ) × (x ≡ 38 ∷ t)
mark_front m x a = (a.back, a.are ∙ ap (λ t. t ++ a.back) a.first)

-- a reference begins with `&`
pub reference_begins : (c : ℕ) (x : List ℕ) → IsReference c x → (t : List ℕ) × (x ≡ 38 ∷ t)
reference_begins c x a =
    let mark = opening_mark a.0 a.1 in
    let front = mark_front mark.0 a.2.front (subst (λ w. IsMarkup w a.2.front) mark.1 a.2.first) in
    (front.0 ++ a.2.back, a.2.are ∙ ap (λ t. t ++ a.2.back) front.1)
