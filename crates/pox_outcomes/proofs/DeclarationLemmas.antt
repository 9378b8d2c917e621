-- The XML declaration, and the start of the root element.
use Rattle.std.proofs.Common.{◌≡◌, ◌≢◌, ℕ, zero, suc, ◌<◌, ◌≤◌, ◌⊎◌, inl, inr, true, false, ◌==◌, List, [], ◌∷◌, ◌++◌, length, refl, sym, ap, ◌∙◌, arith, codes}
use Rattle.std.proofs.lemmas.Bool.{false≢true}
use Rattle.std.proofs.lemmas.Bool.Decides.{nat_tests}
use Rattle.pox_outcomes.specs.Language.{◌▸◌, StopsAt, Reads, Any}
use Rattle.pox_outcomes.specs.Markup.{is_white, IsMarkup, IsOneOf, word_at, is_plain, are_words, BeginsDark, IsBehindWhite}
use Rattle.pox_outcomes.specs.Declaration.{IsOneWhite, encodings, closings, IsClosing, IsEncoding, parts, IsPart, IsAfterVersion, versions, IsDeclaration, IsOpening}
use Rattle.pox_outcomes.proofs.LanguageLemmas.{IsPrefixFree, Leads, after_leads, reads_as, reads_then, stops_beside, stops_same, no_cons}
use Rattle.pox_outcomes.proofs.SequenceLemmas.{Some, some_then, then_free, stops_first_part, stops_second_part}
use Rattle.pox_outcomes.proofs.MarkupLemmas.{markup_one, free_markup}
use Rattle.pox_outcomes.proofs.ChoiceLemmas.{IsCode, code_words, leads_choice, stops_choice, choice_free, nothing_behind, only_front, Two, two_here, two_first, two_once}

-- one of some words begins no other
pub free_words : (words : List (List ℕ)) → are_words words ≡ true → IsPrefixFree (IsOneOf words (length words))
free_words words all x y r s a b e = (code_words words all a.0 b.0 a.1 b.1 x y r s a.2 b.2 e).1

one_word : (words : List (List ℕ)) → 0 < length words → Some (IsOneOf words (length words))
one_word words some_word = let m = markup_one (word_at words 0) in (m.0, (0, some_word, m.1))

pub word_read : (words : List (List ℕ)) (place most : ℕ) {bytes rest : List ℕ} → place < most → Reads (IsMarkup (word_at words place)) bytes rest → Reads (IsOneOf words most) bytes rest
word_read words place most within r = reads_as (λ x m. (place, within, m)) r

pub free_white : IsPrefixFree IsOneWhite
free_white x y r s a c e =
    let whole : a.0 ∷ r ≡ c.0 ∷ s = sym (ap (λ t. t ++ r) a.1) ∙ e ∙ ap (λ t. t ++ s) c.1 in
    let head : a.0 ≡ c.0 = cc in
    a.1 ∙ ap (λ b. b ∷ []) head ∙ sym c.1

-- ---- `?>`, or a white byte and more

abbrev Ended : (List ℕ → Type 0) → List ℕ → Type 0
Ended Y bytes = IsMarkup (codes "?>") bytes ⊎ (IsOneWhite ▸ Y) bytes

mark_byte : (x : List ℕ) → IsMarkup (codes "?>") x → (t : List ℕ) × (x ≡ 63 ∷ t)
mark_byte x m = (m.back, m.are ∙ ap (λ t. t ++ m.back) m.first)

ended_out : {Y : List ℕ → Type 0} (b : ℕ) (d r s : List ℕ) → is_white b ≡ true → Ended Y d → d ++ r ≡ (b ∷ []) ++ s → (y : List ℕ) × (d ≡ (b ∷ []) ++ y) × Y y
ended_out b d r s white (inl m) e =
    let first = mark_byte d m in
    let whole : 63 ∷ (first.0 ++ r) ≡ b ∷ s = ap (λ t. t ++ r) (sym first.1) ∙ e in
    let head : 63 ≡ b = cc in
    absurd (false≢true (ap is_white head ∙ white))
ended_out b d r s white (inr m) e =
    let whole : m.first.0 ∷ (m.back ++ r) ≡ b ∷ s = ap (λ t. t ++ r) (sym (m.are ∙ ap (λ t. t ++ m.back) m.first.1)) ∙ e in
    let head : m.first.0 ≡ b = cc in
    (m.back, m.are ∙ ap (λ t. t ++ m.back) (m.first.1 ∙ ap (λ c. c ∷ []) head), m.second)

leads_ended : {Y : List ℕ → Type 0} {bytes rest : List ℕ} → IsBehindWhite bytes rest → Leads (Ended Y) bytes Y rest
leads_ended {bytes = bytes} {rest = rest} w = after_leads bytes (w.white ∷ []) rest w.are (record {
  into = λ y b. inr (record { front = w.white ∷ []; back = y; are = refl; first = (w.white, refl, w.is); second = b });
  out = λ d r s m e. ended_out w.white d r s w.is m e;
})

elsewhere_white : (bytes p q r t : List ℕ) (b : ℕ) → BeginsDark bytes → is_white b ≡ true → p ++ q ≡ b ∷ t → bytes ≡ p ++ r → (p ≡ []) × (q ≢ [])
elsewhere_white bytes [] q r t b dark white e is = (refl, no_cons q b t e)
elsewhere_white [] (c ∷ p) q r t b dark white e is = absurd (cc)
elsewhere_white (d ∷ bytes) (c ∷ p) q r t b dark white e is =
    let same : d ≡ b = cc in
    absurd (false≢true (sym dark ∙ ap is_white same ∙ white))

pub stops_ended : {Y : List ℕ → Type 0} {bytes : List ℕ} {n : ℕ} → BeginsDark bytes → StopsAt (IsMarkup (codes "?>")) bytes n → StopsAt (Ended Y) bytes n
stops_ended {bytes = bytes} {n = n} dark s = stops_beside bytes n (λ p q r d e. elsewhere_white bytes p q r d.back d.first.0 dark d.first.2 (d.are ∙ ap (λ t. t ++ d.back) d.first.1) e) s

pub stops_behind_white : {Y : List ℕ → Type 0} {bytes rest : List ℕ} {n : ℕ} → IsBehindWhite bytes rest → StopsAt Y rest n → StopsAt (Ended Y) bytes n
stops_behind_white {n = n} w s = (leads_ended w).stops n s

pub white_read : {bytes rest : List ℕ} → IsBehindWhite bytes rest → Reads IsOneWhite bytes rest
white_read w = record { front = w.white ∷ []; are = w.are; is = (w.white, refl, w.is) }

pub reads_ended : {Y : List ℕ → Type 0} {bytes rest behind : List ℕ} → IsBehindWhite bytes rest → Reads Y rest behind → Reads (Ended Y) bytes behind
reads_ended w reads = reads_as (λ x h. inr h) (reads_then (white_read w) reads)

free_ended : {Y : List ℕ → Type 0} → IsPrefixFree Y → IsPrefixFree (Ended Y)
free_ended free x y r s (inl a) (inl b) e = free_markup (codes "?>") refl x y r s a b e
free_ended free x y r s (inl a) (inr b) e =
    let first = mark_byte x a in
    let whole : 63 ∷ (first.0 ++ r) ≡ b.first.0 ∷ (b.back ++ s) = ap (λ t. t ++ r) (sym first.1) ∙ e ∙ ap (λ t. t ++ s) (b.are ∙ ap (λ t. t ++ b.back) b.first.1) in
    let head : 63 ≡ b.first.0 = cc in
    absurd (false≢true (ap is_white head ∙ b.first.2))
free_ended free x y r s (inr a) (inl b) e =
    let first = mark_byte y b in
    let whole : 63 ∷ (first.0 ++ s) ≡ a.first.0 ∷ (a.back ++ r) = ap (λ t. t ++ s) (sym first.1) ∙ sym e ∙ ap (λ t. t ++ r) (a.are ∙ ap (λ t. t ++ a.back) a.first.1) in
    let head : 63 ≡ a.first.0 = cc in
    absurd (false≢true (ap is_white head ∙ a.first.2))
free_ended free x y r s (inr a) (inr b) e = then_free free_white free x y r s a b e

-- ---- the parts

pub closing_some : Some IsClosing
closing_some = let m = markup_one (codes "?>") in (m.0, inl m.1)

free_closing : IsPrefixFree IsClosing
free_closing = free_ended (free_words closings refl)

free_encoding : (quote : List ℕ) → is_plain quote ≡ true → IsPrefixFree (IsEncoding quote)
free_encoding quote plain = then_free (free_words encodings refl) (then_free (free_markup quote plain) free_closing)

encoding_some : (quote : List ℕ) → Some (IsEncoding quote)
encoding_some quote = some_then (one_word encodings (omega arith)) (some_then (markup_one quote) closing_some)

abbrev pub Begins : ℕ → List ℕ → Type 0
Begins place = IsMarkup (word_at parts place)

code_parts : IsCode Begins 7
code_parts = code_words parts refl

part_some : (place : ℕ) → Some (IsPart place)
part_some zero = encoding_some (codes "\"")
part_some (suc zero) = encoding_some (codes "'")
part_some (suc (suc place)) =
    let one : (suc (suc place) == 0) ≡ false = grind (arith, nat_tests) in
    let two : (suc (suc place) == 1) ≡ false = grind (arith, nat_tests) in
    ([], nothing (suc (suc place)) one two) where
      nothing : (place : ℕ) → (place == 0) ≡ false → (place == 1) ≡ false → IsPart place []
      nothing place one two = rw (one, two) refl

free_part : (place : ℕ) → IsPrefixFree (IsPart place)
free_part zero = free_encoding (codes "\"") refl
free_part (suc zero) = free_encoding (codes "'") refl
free_part (suc (suc place)) = λ x y r s a b e.
    let one : (suc (suc place) == 0) ≡ false = grind (arith, nat_tests) in
    let two : (suc (suc place) == 1) ≡ false = grind (arith, nat_tests) in
    empty_part (suc (suc place)) x one two a ∙ sym (empty_part (suc (suc place)) y one two b)
  where
    empty_part : (place : ℕ) (x : List ℕ) → (place == 0) ≡ false → (place == 1) ≡ false → IsPart place x → x ≡ []
    empty_part place x one two h = rw (one, two) at h

pub version_stops_part : {bytes rest : List ℕ} (n : ℕ) → IsBehindWhite bytes rest → StopsAt (IsOneOf parts 7) rest n → StopsAt IsAfterVersion bytes n
version_stops_part {rest = rest} n w s = stops_behind_white w (stops_choice Begins IsPart 7 rest n (λ place within. part_some place) s)

pub version_stops_behind : {bytes rest last : List ℕ} (place n : ℕ) → IsBehindWhite bytes rest → place < 7 → Reads (Begins place) rest last → StopsAt (IsPart place) last n → StopsAt IsAfterVersion bytes n
version_stops_behind {rest = rest} {last = last} place n w within reads s = stops_behind_white w ((leads_choice Begins IsPart 7 place rest last code_parts within reads).stops n s)

pub version_reads : {bytes rest last behind : List ℕ} (place : ℕ) → IsBehindWhite bytes rest → place < 7 → Reads (Begins place) rest last → Reads (IsPart place) last behind → Reads IsAfterVersion bytes behind
version_reads place w within reads part = reads_ended w (reads_as (λ x h. (place, within, h)) (reads_then reads part))

-- nothing stands behind a closing
pub part_empty : (last : List ℕ) (place : ℕ) → (place ≡ 0 → ⊥) → (place ≡ 1 → ⊥) → Reads (IsPart place) last last
part_empty last place one two =
    let first : (place == 0) ≡ false = grind (arith, nat_tests) in
    let second : (place == 1) ≡ false = grind (arith, nat_tests) in
    record { front = []; are = refl; is = rw (first, second) refl }

pub version_some : Some IsAfterVersion
version_some = let m = markup_one (codes "?>") in (m.0, inl m.1)

-- ---- the declaration

declaration_some : Some IsDeclaration
declaration_some = some_then (codes " ", (32, refl, refl)) (some_then (one_word versions (omega arith)) version_some)

declaration_apart : (bytes p q r t : List ℕ) (b : ℕ) → BeginsDark bytes → is_white b ≡ true → p ++ q ≡ b ∷ t → bytes ≡ p ++ r → (length bytes ≤ length r) × (q ≢ [])
declaration_apart bytes p q r t b dark white e is =
    let far = elsewhere_white bytes p q r t b dark white e is in
    let same : length bytes ≡ length r = ap length (is ∙ ap (λ t. t ++ r) far.0) in
    (omega (arith, same), far.1)

pub declaration_dark : (bytes : List ℕ) → BeginsDark bytes → StopsAt IsDeclaration bytes (length bytes)
declaration_dark bytes dark = record {
  front = [];
  rest = bytes;
  are = refl;
  left_is = refl;
  begins = declaration_some;
  apart = λ p q r d e. declaration_apart bytes p q r d.back d.first.0 dark d.first.2 (d.are ∙ ap (λ t. t ++ d.back) d.first.1) e;
}

free_declaration : IsPrefixFree IsDeclaration
free_declaration = then_free free_white (then_free (free_words versions refl) (free_ended (choice_free Begins IsPart 7 code_parts free_part)))

-- ---- the opening

abbrev pub starts : List ℕ → List (List ℕ)
starts root = codes "<?xml" ∷ root ∷ []

module _ (root : List ℕ) (all : are_words (starts root) ≡ true) where
  abbrev Declared : Unit {0} → List ℕ → Type 0
  Declared u = IsDeclaration ▸ IsMarkup root

  abbrev IsNothing : Unit {0} → List ℕ → Type 0
  IsNothing u bytes = bytes ≡ []

  abbrev Whole : Unit {0} → List ℕ → Type 0
  Whole = Two (starts root) all refl Declared IsNothing

  to_opening : (x : List ℕ) → Whole tt x → IsOpening root x
  to_opening x (inl h) = inl h
  to_opening x (inr h) = inr (only_front x h)

  from_opening : (x : List ℕ) → IsOpening root x → Whole tt x
  from_opening x (inl h) = inl h
  from_opening x (inr h) = inr (nothing_behind x h)

  same_opening : {bytes : List ℕ} {n : ℕ} → StopsAt (Any Whole) bytes n → StopsAt (IsOpening root) bytes n
  same_opening {bytes = bytes} {n = n} s = stops_same bytes n (λ x h. to_opening x h.1) (λ x h. (tt, from_opening x h)) s

  declared_some : Some (Any Declared)
  declared_some = let d = some_then declaration_some (markup_one root) in (d.0, (tt, d.1))

  pub opening_stops : {bytes : List ℕ} {n : ℕ} → StopsAt (IsOneOf (starts root) 2) bytes n → StopsAt (IsOpening root) bytes n
  opening_stops s = same_opening (two_here (starts root) all refl Declared IsNothing declared_some ([], (tt, refl)) s)

  pub opening_stops_behind : {bytes rest : List ℕ} {n : ℕ} → Reads (IsMarkup (codes "<?xml")) bytes rest → StopsAt (IsDeclaration ▸ IsMarkup root) rest n → StopsAt (IsOpening root) bytes n
  opening_stops_behind {rest = rest} {n = n} r s = same_opening (two_first (starts root) all refl Declared IsNothing r (stops_same rest n (λ x h. (tt, h)) (λ x h. h.1) s))

  pub opening_stops_declaration : {bytes rest : List ℕ} {n : ℕ} → Reads (IsMarkup (codes "<?xml")) bytes rest → StopsAt IsDeclaration rest n → StopsAt (IsOpening root) bytes n
  opening_stops_declaration r s = opening_stops_behind r (stops_first_part (markup_one root) s)

  pub opening_stops_root : {bytes rest last : List ℕ} {n : ℕ} → Reads (IsMarkup (codes "<?xml")) bytes rest → Reads IsDeclaration rest last → StopsAt (IsMarkup root) last n → StopsAt (IsOpening root) bytes n
  opening_stops_root r d s = opening_stops_behind r (stops_second_part free_declaration d s)

  root_at : IsPrefixFree (IsMarkup root)
  root_at x y r s a b e = (code_words (starts root) all 1 1 (omega arith) (omega arith) x y r s a b e).1

  pub free_opening : IsPrefixFree (IsOpening root)
  free_opening x y r s a b e =
      (two_once (starts root) all refl Declared IsNothing (λ u v x y r s a b e. (refl, then_free free_declaration root_at x y r s a b e)) (λ u v x y r s a b e. (refl, a ∙ sym b)) tt tt x y r s (from_opening x a) (from_opening y b) e).1

  pub opening_some : Some (IsOpening root)
  opening_some = let m = markup_one root in (m.0, inr m.1)
