-- Texts, unit by unit.
use Rattle.std.proofs.Common.{◌≡◌, ◌≢◌, ℕ, ◌≤◌, ◌⊎◌, inl, inr, ⊎_elim, Bool, true, false, ◌||◌, ◌==◌, List, [], ◌∷◌, ◌++◌, length, append_assoc, append-nil, refl, sym, ap, ◌∙◌, subst, arith, length-append, codes, encode_utf8}
use Rattle.std.specs.List.{list_all}
use Rattle.std.proofs.lemmas.Bool.{false≢true}
use Rattle.std.proofs.lemmas.Bool.Decides.{nat_tests}
use Rattle.lti_outside.proofs.BoolLemmas.{and_split}
use Rattle.pox_outcomes.specs.Language.{Then, StopsAt, Reads, IsOnce}
use Rattle.pox_outcomes.specs.Markup.{is_white, IsWhite, BeginsOtherwise}
use Rattle.pox_outcomes.specs.Characters.{rows, row_at, IsCharacter, IsCharacterBy, begins}
use Rattle.pox_outcomes.specs.Texts.{is_literal, IsLiteral, IsUnit, is_gap, IsGap, IsRest, ends, goes, IsUnits, IsBegun, IsText, Pushes, PushesGap}
use Rattle.pox_outcomes.proofs.LanguageLemmas.{IsPrefixFree, compare, leads_first, stops_here, stops_beside, stops_same, no_cons, flipped, elsewhere_byte}
use Rattle.pox_outcomes.proofs.SequenceLemmas.{joined, free_once, parts_even, backs_even, parts_same}
use Rattle.pox_outcomes.proofs.RunLemmas.{IsRun, IsOutside, BeginsOutside, run_parts, run_front, run_ends, run_no, leads_run}
use Rattle.pox_outcomes.proofs.MarkupLemmas.{not_true}
use Rattle.pox_outcomes.proofs.CharacterLemmas.{free_character, nonempty_at, empty_row}
use Rattle.pox_outcomes.proofs.ReferenceLemmas.{IsSomeReference, reference_once, reference_begins}

-- some unit, and so on
abbrev pub IsSomeUnit : List ℕ → Type 0
IsSomeUnit bytes = (text : List ℕ) × IsUnit text bytes

abbrev pub IsSomeRest : List ℕ → Type 0
IsSomeRest bytes = (text : List ℕ) × IsRest text bytes

abbrev pub IsSomeUnits : List ℕ → Type 0
IsSomeUnits bytes = (text : List ℕ) × IsUnits text bytes

abbrev pub IsSomeText : List ℕ → Type 0
IsSomeText bytes = (text : List ℕ) × IsText text bytes

-- ---- the first byte

literal_byte : (x : List ℕ) → begins is_literal x ≡ true → (b : ℕ) × (t : List ℕ) × (x ≡ b ∷ t) × (is_white b ≡ false) × ((b == 60) ≡ false) × ((b == 38) ≡ false)
literal_byte [] e = absurd (false≢true e)
literal_byte (b ∷ t) e =
    let neither = not_true (is_white b || b == 60 || b == 38) e in
    let both = neither_of (is_white b || b == 60) (b == 38) neither in
    let first = neither_of (is_white b) (b == 60) both.0 in
    (b, t, refl, first.0, first.1, both.1)
  where
    neither_of : (p q : Bool) → (p || q) ≡ false → (p ≡ false) × (q ≡ false)
    neither_of true q e = absurd (false≢true (sym e))
    neither_of false q e = (refl, e)

-- a unit begins with a byte that isn't white and isn't `<`
pub unit_byte : (text x : List ℕ) → IsUnit text x → (b : ℕ) × (t : List ℕ) × (x ≡ b ∷ t) × (is_white b ≡ false) × ((b == 60) ≡ false)
unit_byte text x (inl h) =
    let first = literal_byte x h.0.first in
    (first.0, first.1, first.2, first.3, first.4)
unit_byte text x (inr h) =
    let first = reference_begins h.0 x h.2 in
    (38, first.0, first.1, refl, refl)

-- each unit spells one text, and none begins another
pub unit_once : (t u x y r s : List ℕ) → IsUnit t x → IsUnit u y → x ++ r ≡ y ++ s → (t ≡ u) × (x ≡ y)
unit_once t u x y r s (inl a) (inl b) e =
    let same = free_character x y r s a.0.character b.0.character e in
    (sym a.1 ∙ same ∙ b.1, same)
unit_once t u x y r s (inl a) (inr b) e =
    let first = literal_byte x a.0.first in
    let other = reference_begins b.0 y b.2 in
    let whole : first.0 ∷ (first.1 ++ r) ≡ 38 ∷ (other.0 ++ s) = ap (λ t. t ++ r) (sym first.2) ∙ e ∙ ap (λ t. t ++ s) other.1 in
    let head : first.0 ≡ 38 = cc in
    absurd (false≢true (sym first.5 ∙ rw head refl))
unit_once t u x y r s (inr a) (inl b) e =
    let first = literal_byte y b.0.first in
    let other = reference_begins a.0 x a.2 in
    let whole : 38 ∷ (other.0 ++ r) ≡ first.0 ∷ (first.1 ++ s) = ap (λ t. t ++ r) (sym other.1) ∙ e ∙ ap (λ t. t ++ s) first.2 in
    let head : first.0 ≡ 38 = cc in
    absurd (false≢true (sym first.5 ∙ rw head refl))
unit_once t u x y r s (inr a) (inr b) e =
    let same = reference_once a.0 b.0 x y r s a.2 b.2 e in
    (a.1 ∙ ap encode_utf8 same.0 ∙ sym b.1, same.1)

free_unit : IsPrefixFree IsSomeUnit
free_unit x y r s a b e = (unit_once a.0 b.0 x y r s a.1 b.1 e).1

-- ---- a unit and the rest

to_units : (x : List ℕ) → Then IsSomeUnit IsSomeRest x → IsSomeUnits x
to_units x h = (h.first.0 ++ h.second.0, record { here = h.first.0; unit = h.front; others = h.second.0; rest = h.back; is = h.first.1; behind = h.second.1; are = h.are; text_is = refl })

from_units : (x : List ℕ) → IsSomeUnits x → Then IsSomeUnit IsSomeRest x
from_units x h = record { front = h.1.unit; back = h.1.rest; are = h.1.are; first = (h.1.here, h.1.is); second = (h.1.others, h.1.behind) }

pub rest_one : IsSomeRest (codes "<")
rest_one = ([], ends [] refl refl refl)

-- a stop in the unit
pub units_stop : (bytes : List ℕ) (n : ℕ) → StopsAt IsSomeUnit bytes n → StopsAt IsSomeUnits bytes n
units_stop bytes n s = stops_same bytes n to_units from_units (stops_here bytes n (codes "<") rest_one s)

-- behind the unit
pub units_behind : (bytes rest : List ℕ) (n : ℕ) → Reads IsSomeUnit bytes rest → StopsAt IsSomeRest rest n → StopsAt IsSomeUnits bytes n
units_behind bytes rest n reads s = stops_same bytes n to_units from_units ((leads_first bytes rest free_unit reads).stops n s)

-- ---- the rest behind its white bytes

-- the `<` of the end tag, or a unit
abbrev IsDark : List ℕ → Type 0
IsDark x = IsSomeUnits x ⊎ (x ≡ codes "<")

gap_white : (gap : List ℕ) → IsGap gap → IsWhite gap
gap_white [] is = refl
gap_white (b ∷ gap) is =
    let both = and_split (is_gap b) (list_all is_gap gap) is in
    let first : is_white b ≡ true = grind (arith, nat_tests) in
    let rest = gap_white gap both.1 in
    rw (first, rest) refl

rest_run : (text x : List ℕ) → IsRest text x → Then (IsRun is_white) IsDark x
rest_run text x (ends white is are none) = record { front = white; back = codes "<"; are = are; first = is; second = inr refl }
rest_run text x (goes gap here unit others rest is unit_is behind are text_is) = record {
  front = gap;
  back = unit ++ rest;
  are = are;
  first = gap_white gap is;
  second = inl (here ++ others, record { here = here; unit = unit; others = others; rest = rest; is = unit_is; behind = behind; are = refl; text_is = refl });
}

units_byte : (text x : List ℕ) → IsUnits text x → (b : ℕ) × (t : List ℕ) × (x ≡ b ∷ t) × (is_white b ≡ false) × ((b == 60) ≡ false)
units_byte text x u =
    let first = unit_byte u.here u.unit u.is in
    (first.0, first.1 ++ u.rest, u.are ∙ ap (λ t. t ++ u.rest) first.2, first.3, first.4)

dark_outside : (x : List ℕ) → IsDark x → BeginsOutside is_white x
dark_outside x (inl u) = let first = units_byte u.0 x u.1 in (first.0, first.1, first.2, first.3)
dark_outside x (inr e) = (60, [], e, refl)

pub dark_stops : (dark : List ℕ) (n : ℕ) → BeginsOtherwise 60 dark → StopsAt IsSomeUnits dark n → StopsAt IsDark dark n
dark_stops dark n other s = stops_beside dark n (λ p q r d e. elsewhere_byte 60 dark p q r [] other d e) s

-- behind a gap a unit is to come
pub rest_behind : (bytes gap dark : List ℕ) (n : ℕ) → bytes ≡ gap ++ dark → IsGap gap → IsOutside is_white dark → BeginsOtherwise 60 dark → StopsAt IsSomeUnits dark n → StopsAt IsSomeRest bytes n
rest_behind bytes gap dark n are is outside other s =
    let run = (leads_run is_white bytes gap dark are (gap_white gap is) outside dark_outside).stops n (dark_stops dark n other s) in
    let u = s.begins.1.1 in
    record {
      front = gap ++ s.front;
      rest = s.rest;
      are = are ∙ ap (λ t. gap ++ t) s.are ∙ sym (append_assoc gap s.front s.rest);
      left_is = s.left_is;
      begins = (s.begins.0, (gap ++ (u.here ++ u.others), goes gap u.here u.unit u.others u.rest is u.is u.behind (append_assoc gap s.front s.begins.0 ∙ ap (λ t. gap ++ t) u.are) refl));
      apart = λ p q r d e. run.apart p q r (rest_run d.0 (p ++ q) d.1) e;
    }

-- ---- a character by its first byte

none_empty : IsCharacter [] → ⊥
none_empty is = empty_row (row_at rows is.0) (nonempty_at is.0 is.1) is.2

by_front : (P : ℕ → Bool) (front rest more bytes : List ℕ) → bytes ≡ front ++ rest → begins P bytes ≡ true → IsCharacter (front ++ more) → P 97 ≡ true → (m : List ℕ) × IsCharacterBy P (front ++ m)
by_front P [] rest more bytes e first is here = (97 ∷ [], record { character = (0, omega arith, record { front = 97 ∷ []; back = []; are = refl; first = (97, refl, refl); second = refl }); first = here })
by_front P (b ∷ front) rest more bytes e first is here = (more, record { character = is; first = subst (λ t. begins P t ≡ true) e first })

-- the first byte passes
pub by_stops : (P : ℕ → Bool) (bytes : List ℕ) (n : ℕ) → P 97 ≡ true → begins P bytes ≡ true → StopsAt IsCharacter bytes n → StopsAt (IsCharacterBy P) bytes n
by_stops P bytes n here first s = record {
  front = s.front;
  rest = s.rest;
  are = s.are;
  left_is = s.left_is;
  begins = by_front P s.front s.rest s.begins.0 bytes s.are first s.begins.1 here;
  apart = λ p q r d e. s.apart p q r d.character e;
}

pub by_apart : (P : ℕ → Bool) (bytes p q r : List ℕ) → begins P bytes ≡ false → begins P (p ++ q) ≡ true → bytes ≡ p ++ r → (length bytes ≤ length r) × (q ≢ [])
by_apart P bytes [] [] r fails first e = absurd (false≢true first)
by_apart P bytes [] (c ∷ q) r fails first e = (omega (arith, ap length e), no_cons (c ∷ q) c q refl)
by_apart P [] (b ∷ p) q r fails first e = absurd (cc)
by_apart P (c ∷ bytes) (b ∷ p) q r fails first e =
    let same : c ≡ b = cc in
    absurd (false≢true (sym fails ∙ ap P same ∙ first))

-- the first byte doesn't
pub by_fails : (P : ℕ → Bool) (bytes : List ℕ) → P 97 ≡ true → begins P bytes ≡ false → StopsAt (IsCharacterBy P) bytes (length bytes)
by_fails P bytes here fails = record {
  front = [];
  rest = bytes;
  are = refl;
  left_is = refl;
  begins = (97 ∷ [], record { character = (0, omega arith, record { front = 97 ∷ []; back = []; are = refl; first = (97, refl, refl); second = refl }); first = here });
  apart = λ p q r d e. by_apart P bytes p q r fails d.first e;
}

begins_front : (P : ℕ → Bool) (front rest bytes : List ℕ) → bytes ≡ front ++ rest → begins P bytes ≡ true → IsCharacter front → begins P front ≡ true
begins_front P [] rest bytes e first is = absurd (none_empty is)
begins_front P (b ∷ front) rest bytes e first is = subst (λ t. begins P t ≡ true) e first

-- ---- a unit

unit_literal : (text x : List ℕ) → IsUnit text x → IsLiteral x ⊎ IsSomeReference x
unit_literal text x (inl h) = inl h.0
unit_literal text x (inr h) = inr (h.0, h.2)

literal_unit : (x : List ℕ) → IsLiteral x ⊎ IsSomeReference x → IsSomeUnit x
literal_unit x (inl h) = (x, inl (h, refl))
literal_unit x (inr h) = (encode_utf8 h.0, inr (h.0, refl, h.1))

-- without a `&`
pub literal_stops : (bytes : List ℕ) (n : ℕ) → BeginsOtherwise 38 bytes → StopsAt IsLiteral bytes n → StopsAt IsSomeUnit bytes n
literal_stops bytes n other s =
    stops_same bytes n literal_unit (λ x u. unit_literal u.0 x u.1)
    (stops_beside bytes n (λ p q r d e. let first = reference_begins d.0 (p ++ q) d.1 in elsewhere_byte 38 bytes p q r first.0 other first.1 e) s)

elsewhere_literal : (bytes p q r rest : List ℕ) → bytes ≡ 38 ∷ rest → begins is_literal (p ++ q) ≡ true → bytes ≡ p ++ r → (p ≡ []) × (q ≢ [])
elsewhere_literal bytes [] [] r rest mark first e = absurd (false≢true first)
elsewhere_literal bytes [] (c ∷ q) r rest mark first e = (refl, no_cons (c ∷ q) c q refl)
elsewhere_literal bytes (b ∷ p) q r rest mark first e =
    let whole : b ∷ (p ++ r) ≡ 38 ∷ rest = sym e ∙ mark in
    let head : 38 ≡ b = cc in
    absurd (false≢true (ap is_literal head ∙ first))

-- behind a `&`
pub mark_stops : (bytes rest : List ℕ) (n : ℕ) → bytes ≡ 38 ∷ rest → StopsAt IsSomeReference bytes n → StopsAt IsSomeUnit bytes n
mark_stops bytes rest n mark s =
    stops_same bytes n (λ x h. literal_unit x (flipped h)) (λ x u. flipped (unit_literal u.0 x u.1))
    (stops_beside bytes n (λ p q r d e. elsewhere_literal bytes p q r rest mark d.first e) s)

-- ---- the loop

-- The text so far is spelled by what was read, and a unit is to come.
pub record Spells (bytes text rest : List ℕ) : Type 0 where
  pub front : List ℕ
  pub are : bytes ≡ front ++ rest
  pub into : (t y : List ℕ) → IsUnits t y → IsText (text ++ t) (front ++ y)
  pub stops : (n : ℕ) → StopsAt IsSomeUnits rest n → StopsAt IsSomeText bytes n

text_of_dark : (x : List ℕ) → Then (IsRun is_white) IsDark x → IsSomeText x
text_of_dark x h = ⊎_elim (λ u. (u.0, record { front = h.front; back = h.back; are = h.are; first = h.first; second = inr u.1 }))
    (λ e. ([], record { front = h.front; back = h.back; are = h.are; first = h.first; second = inl (refl, e) })) h.second

dark_of_begun : (text x : List ℕ) → IsBegun text x → IsDark x
dark_of_begun text x (inl h) = inr h.1
dark_of_begun text x (inr u) = inl (text, u)

dark_of_text : (x : List ℕ) → IsSomeText x → Then (IsRun is_white) IsDark x
dark_of_text x t = record { front = t.1.front; back = t.1.back; are = t.1.are; first = t.1.first; second = dark_of_begun t.0 t.1.back t.1.second }

pub spells_start : (bytes white rest : List ℕ) → bytes ≡ white ++ rest → IsWhite white → IsOutside is_white rest → BeginsOtherwise 60 rest → Spells bytes [] rest
spells_start bytes white rest are is outside other = record {
  front = white;
  are = are;
  into = λ t y u. record { front = white; back = y; are = refl; first = is; second = inr u };
  stops = λ n s. stops_same bytes n text_of_dark dark_of_text ((leads_run is_white bytes white rest are is outside dark_outside).stops n (dark_stops rest n other s));
}

pub reads_empty : (bytes white rest behind : List ℕ) → bytes ≡ white ++ rest → IsWhite white → rest ≡ 60 ∷ behind → Reads (IsText []) bytes behind
reads_empty bytes white rest behind are is less = record {
  front = white ++ codes "<";
  are = are ∙ ap (λ t. white ++ t) less ∙ sym (append_assoc white (codes "<") behind);
  is = record { front = white; back = codes "<"; are = refl; first = is; second = inl (refl, refl) };
}

-- a unit and a gap
pub spells_more : (bytes text middle new rest end dark : List ℕ) → Spells bytes text rest → Pushes text middle rest end → PushesGap middle new end dark → IsOutside is_white dark → BeginsOtherwise 60 dark
    → Spells bytes new dark
spells_more bytes text middle new rest end dark spells pushes gaps outside other = record {
  front = spells.front ++ (pushes.unit ++ gaps.gap);
  are = spells.are ∙ ap (λ t. spells.front ++ t) (pushes.are ∙ ap (λ t. pushes.unit ++ t) gaps.are ∙ sym (append_assoc pushes.unit gaps.gap dark)) ∙ sym (append_assoc spells.front (pushes.unit ++ gaps.gap) dark);
  into = λ t y u.
      let behind : IsRest (gaps.gap ++ (u.here ++ u.others)) (gaps.gap ++ (u.unit ++ u.rest)) = goes gaps.gap u.here u.unit u.others u.rest gaps.is u.is u.behind refl refl in
      let units : IsUnits (pushes.here ++ (gaps.gap ++ (u.here ++ u.others))) (pushes.unit ++ (gaps.gap ++ (u.unit ++ u.rest))) =
      record { here = pushes.here; unit = pushes.unit; others = gaps.gap ++ (u.here ++ u.others); rest = gaps.gap ++ (u.unit ++ u.rest); is = pushes.is; behind = behind; are = refl; text_is = refl } in
      let whole = spells.into (pushes.here ++ (gaps.gap ++ (u.here ++ u.others))) (pushes.unit ++ (gaps.gap ++ (u.unit ++ u.rest))) units in
      let text_eq : text ++ (pushes.here ++ (gaps.gap ++ (u.here ++ u.others))) ≡ new ++ t =
      ap (λ k. text ++ (pushes.here ++ (gaps.gap ++ k))) (sym u.text_is) ∙ sym (append_assoc text pushes.here (gaps.gap ++ t)) ∙ ap (λ k. k ++ (gaps.gap ++ t)) (sym pushes.new_is) ∙ sym (append_assoc middle gaps.gap t) ∙ ap (λ k. k ++ t) (sym gaps.new_is) in
      let bytes_eq : spells.front ++ (pushes.unit ++ (gaps.gap ++ (u.unit ++ u.rest))) ≡ (spells.front ++ (pushes.unit ++ gaps.gap)) ++ y =
      ap (λ k. spells.front ++ (pushes.unit ++ (gaps.gap ++ k))) (sym u.are) ∙ ap (λ k. spells.front ++ k) (sym (append_assoc pushes.unit gaps.gap y)) ∙ sym (append_assoc spells.front (pushes.unit ++ gaps.gap) y) in
      subst (λ k. IsText k ((spells.front ++ (pushes.unit ++ gaps.gap)) ++ y)) text_eq (subst (IsText (text ++ (pushes.here ++ (gaps.gap ++ (u.here ++ u.others))))) bytes_eq whole);
  stops = λ n s.
      let unit : Reads IsSomeUnit rest end = record { front = pushes.unit; are = pushes.are; is = (pushes.here, pushes.is) } in
      spells.stops n (units_behind rest end n unit (rest_behind end gaps.gap dark n gaps.are gaps.is outside other s));
}

-- the end behind a unit
pub spells_end : (bytes text new rest end white dark behind : List ℕ) → Spells bytes text rest → Pushes text new rest end → end ≡ white ++ dark → IsWhite white → dark ≡ 60 ∷ behind → Reads (IsText new) bytes behind
spells_end bytes text new rest end white dark behind spells pushes are is less =
    let last = white ++ codes "<" in
    let units : IsUnits (pushes.here ++ []) (pushes.unit ++ last) =
    record { here = pushes.here; unit = pushes.unit; others = []; rest = last; is = pushes.is; behind = ends white is refl refl; are = refl; text_is = refl } in
    let text_eq : text ++ (pushes.here ++ []) ≡ new = ap (λ k. text ++ k) (append-nil pushes.here) ∙ sym pushes.new_is in
    let end_is : end ≡ last ++ behind = are ∙ ap (λ t. white ++ t) less ∙ sym (append_assoc white (codes "<") behind) in
    record {
      front = spells.front ++ (pushes.unit ++ last);
      are = spells.are ∙ ap (λ t. spells.front ++ t) (pushes.are ∙ ap (λ t. pushes.unit ++ t) end_is ∙ sym (append_assoc pushes.unit last behind)) ∙ sym (append_assoc spells.front (pushes.unit ++ last) behind);
      is = subst (λ k. IsText k (spells.front ++ (pushes.unit ++ last))) text_eq (spells.into (pushes.here ++ []) (pushes.unit ++ last) units);
    }

-- a stop in a unit
pub spells_stop : (bytes text rest : List ℕ) (n : ℕ) → Spells bytes text rest → StopsAt IsSomeUnit rest n → StopsAt IsSomeText bytes n
spells_stop bytes text rest n spells s = spells.stops n (units_stop rest n s)

-- a stop behind a unit
pub spells_stop_behind : (bytes text new rest end : List ℕ) (n : ℕ) → Spells bytes text rest → Pushes text new rest end → StopsAt IsSomeRest end n → StopsAt IsSomeText bytes n
spells_stop_behind bytes text new rest end n spells pushes s =
    spells.stops n (units_behind rest end n (record { front = pushes.unit; are = pushes.are; is = (pushes.here, pushes.is) }) s)

-- ---- CR in a gap

some_gap : (gap gap2 w z : List ℕ) → list_all is_gap gap ≡ false → IsWhite gap → IsGap gap2 → BeginsOutside is_white z → gap ++ w ≡ gap2 ++ z → ⊥
some_gap gap gap2 w z fails white is outside e =
    ⊎_elim
    (λ h. longer h.0 h.1 h.2)
    (λ h. false≢true (sym fails ∙ run_front is_gap gap h.0 h.1 gap2 h.2 is))
    (compare gap gap2 w z e)
  where
    longer : (m : List ℕ) → gap ≡ gap2 ++ m → z ≡ m ++ w → ⊥
    longer [] a b = false≢true (sym fails ∙ subst IsGap (sym (a ∙ append-nil gap2)) is)
    longer (c ∷ m) a b =
        let whole : outside.0 ∷ outside.1 ≡ c ∷ (m ++ w) = sym outside.2 ∙ b in
        let head : outside.0 ≡ c = cc in
        run_no is_white gap2 c m (subst IsWhite a white) (sym (ap is_white head) ∙ outside.3)

less_stops : (dark : List ℕ) → BeginsOtherwise 60 dark → StopsAt (λ x. x ≡ codes "<") dark (length dark)
less_stops dark other = record {
  front = [];
  rest = dark;
  are = refl;
  left_is = refl;
  begins = (codes "<", refl);
  apart = λ p q r d e.
      let far = elsewhere_byte 60 dark p q r [] other d e in
      let same : length dark ≡ length r = ap length (e ∙ ap (λ t. t ++ r) far.0) in
      (omega (arith, same), far.1);
}

is_less_outside : (x : List ℕ) → x ≡ codes "<" → BeginsOutside is_white x
is_less_outside x e = (60, [], e, refl)

return_apart : (bytes gap dark text p q r x : List ℕ) → bytes ≡ gap ++ dark → IsWhite gap → list_all is_gap gap ≡ false → IsOutside is_white dark → BeginsOtherwise 60 dark → x ≡ p ++ q → IsRest text x → bytes ≡ p ++ r
    → (length dark ≤ length r) × (q ≢ [])
return_apart bytes gap dark text p q r x are white fails outside other x_is (ends run is run_are none) e =
    let stop = (leads_run is_white bytes gap dark are white outside is_less_outside).stops (length dark) (less_stops dark other) in
    stop.apart p q r (record { front = run; back = codes "<"; are = sym x_is ∙ run_are; first = is; second = refl }) e
return_apart bytes gap dark text p q r x are white fails outside other x_is (goes gap2 here unit others rest is unit_is behind run_are text_is) e =
    let first = unit_byte here unit unit_is in
    let begins_out : BeginsOutside is_white (unit ++ rest) = (first.0, first.1 ++ rest, ap (λ t. t ++ rest) first.2, first.3) in
    let whole : p ++ q ≡ gap2 ++ (unit ++ rest) = sym x_is ∙ run_are in
    ⊎_elim
    (λ h. absurd (some_gap gap gap2 (h.0 ++ q) (unit ++ rest) fails white is begins_out (sym (append_assoc gap h.0 q) ∙ ap (λ t. t ++ q) (sym h.1) ∙ whole)))
    (λ h.
    let long = ap length h.3 in
    let more = length-append h.1 dark in
    (omega (arith, long, more), run_ends is_white p gap2 (unit ++ rest) q (run_front is_white p h.0 h.1 gap h.2 white) whole begins_out))
    (compare p gap r dark (sym e ∙ are))

-- a CR among the white bytes, and no end tag behind them
pub return_stops : (bytes gap dark : List ℕ) → bytes ≡ gap ++ dark → IsWhite gap → list_all is_gap gap ≡ false → IsOutside is_white dark → BeginsOtherwise 60 dark → StopsAt IsSomeRest bytes (length dark)
return_stops bytes gap dark are white fails outside other = record {
  front = gap;
  rest = dark;
  are = are;
  left_is = refl;
  begins = (codes "<", ([], ends gap white refl refl));
  apart = λ p q r d e. return_apart bytes gap dark d.0 p q r (p ++ q) are white fails outside other refl d.1 e;
}

-- ---- bytes spell one text

-- the white bytes of a rest, and what stands behind them
abbrev white_parts : (white back x : List ℕ) → IsWhite white → x ≡ white ++ back → Then (IsRun is_white) (λ y. y ≡ back) x
white_parts white back x is are = record { front = white; back = back; are = are; first = is; second = refl }

less_outside : BeginsOutside is_white (codes "<")
less_outside = (60, [], refl, refl)

unit_outside : (here unit : List ℕ) → IsUnit here unit → (rest : List ℕ) → BeginsOutside is_white (unit ++ rest)
unit_outside here unit is rest = let first = unit_byte here unit is in (first.0, first.1 ++ rest, ap (λ t. t ++ rest) first.2, first.3)

no_unit : (here unit rest r s : List ℕ) → IsUnit here unit → codes "<" ++ r ≡ (unit ++ rest) ++ s → ⊥
no_unit here unit rest r s is e =
    let first = unit_byte here unit is in
    let whole : 60 ∷ r ≡ first.0 ∷ ((first.1 ++ rest) ++ s) = e ∙ ap (λ t. (t ++ rest) ++ s) first.2 in
    let head : 60 ≡ first.0 = cc in
    false≢true (sym first.4 ∙ rw (sym head) refl)

pub rest_once : IsOnce IsRest
rest_once t u x y r s (ends white is are none) (ends white2 is2 are2 none2) e =
    let a = white_parts white (codes "<") x is are in
    let b = white_parts white2 (codes "<") y is2 are2 in
    (none ∙ sym none2, parts_same a b (run_parts is_white r s a b less_outside less_outside e).0 refl)
rest_once t u x y r s (ends white is are none) (goes gap here unit others rest gap_is unit_is behind run_are text_is) e =
    let same = run_parts is_white r s (white_parts white (codes "<") x is are) (white_parts gap (unit ++ rest) y (gap_white gap gap_is) run_are) less_outside (unit_outside here unit unit_is rest) e in
    absurd (no_unit here unit rest r s unit_is same.1)
rest_once t u x y r s (goes gap here unit others rest gap_is unit_is behind run_are text_is) (ends white is are none) e =
    let same = run_parts is_white r s (white_parts gap (unit ++ rest) x (gap_white gap gap_is) run_are) (white_parts white (codes "<") y is are) (unit_outside here unit unit_is rest) less_outside e in
    absurd (no_unit here unit rest s r unit_is (sym same.1))
rest_once t u x y r s (goes gap here unit others rest gap_is unit_is behind run_are text_is) (goes gap2 here2 unit2 others2 rest2 gap_is2 unit_is2 behind2 run_are2 text_is2) e =
    let a = white_parts gap (unit ++ rest) x (gap_white gap gap_is) run_are in
    let b = white_parts gap2 (unit2 ++ rest2) y (gap_white gap2 gap_is2) run_are2 in
    let once = run_parts is_white r s a b (unit_outside here unit unit_is rest) (unit_outside here2 unit2 unit_is2 rest2) e in
    let au : Then (IsUnit here) (IsRest others) (unit ++ rest) = joined unit rest unit_is behind in
    let bu : Then (IsUnit here2) (IsRest others2) (unit2 ++ rest2) = joined unit2 rest2 unit_is2 behind2 in
    let same = unit_once here here2 unit unit2 (rest ++ r) (rest2 ++ s) unit_is unit_is2 (parts_even r s au bu once.1) in
    let next = rest_once others others2 rest rest2 r s behind behind2 (backs_even r s au bu same.1 once.1) in (
      text_is ∙ ap (λ g. g ++ (here ++ others)) once.0 ∙ ap (λ h. gap2 ++ (h ++ others)) same.0 ∙ ap (λ o. gap2 ++ (here2 ++ o)) next.0 ∙ sym text_is2,
      parts_same a b once.0 (parts_same au bu same.1 next.1),
    )

units_once : IsOnce IsUnits
units_once t u x y r s a b e =
    let au : Then (IsUnit a.here) (IsRest a.others) x = record { front = a.unit; back = a.rest; are = a.are; first = a.is; second = a.behind } in
    let bu : Then (IsUnit b.here) (IsRest b.others) y = record { front = b.unit; back = b.rest; are = b.are; first = b.is; second = b.behind } in
    let same = unit_once a.here b.here a.unit b.unit (a.rest ++ r) (b.rest ++ s) a.is b.is (parts_even r s au bu e) in
    let next = rest_once a.others b.others a.rest b.rest r s a.behind b.behind (backs_even r s au bu same.1 e) in
    (a.text_is ∙ ap (λ h. h ++ a.others) same.0 ∙ ap (λ o. b.here ++ o) next.0 ∙ sym b.text_is, parts_same au bu same.1 next.1)

less_unit : (t x r s : List ℕ) → IsUnits t x → 60 ∷ r ≡ x ++ s → ⊥
less_unit t x r s u e =
    let first = units_byte t x u in
    let whole : 60 ∷ r ≡ first.0 ∷ (first.1 ++ s) = e ∙ ap (λ t. t ++ s) first.2 in
    let head : 60 ≡ first.0 = cc in
    false≢true (sym first.4 ∙ rw (sym head) refl)

begun_once : (t u x y r s : List ℕ) → IsBegun t x → IsBegun u y → x ++ r ≡ y ++ s → (t ≡ u) × (x ≡ y)
begun_once t u x y r s (inl a) (inl b) e = (a.0 ∙ sym b.0, a.1 ∙ sym b.1)
begun_once t u x y r s (inl a) (inr b) e = absurd (less_unit u y r s b (ap (λ t. t ++ r) (sym a.1) ∙ e))
begun_once t u x y r s (inr a) (inl b) e = absurd (less_unit t x s r a (ap (λ t. t ++ s) (sym b.1) ∙ sym e))
begun_once t u x y r s (inr a) (inr b) e = units_once t u x y r s a b e

begun_outside : (t x : List ℕ) → IsBegun t x → BeginsOutside is_white x
begun_outside t x b = dark_outside x (dark_of_begun t x b)

-- each text token spells one text, and none begins another
pub text_once : IsOnce IsText
text_once t u x y r s a b e =
    let same = run_parts is_white r s a b (begun_outside t a.back a.second) (begun_outside u b.back b.second) e in
    let next = begun_once t u a.back b.back r s a.second b.second same.1 in
    (next.0, parts_same a b same.0 next.1)

pub free_text : IsPrefixFree IsSomeText
free_text = free_once text_once

-- an empty text
pub text_some : (y : List ℕ) × IsSomeText y
text_some = (codes "<", ([], record { front = []; back = codes "<"; are = refl; first = refl; second = inl (refl, refl) }))
