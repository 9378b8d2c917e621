-- Characters, byte by byte.
use Rattle.std.proofs.Common.{◌≡◌, ◌≢◌, ℕ, zero, suc, Bor, ◌+◌, ◌<◌, ◌≤◌, ⊎_elim, Bool, true, false, ◌&&◌, ◌||◌, nat_lt, List, [], ◌∷◌, ◌++◌, length, get_or, drop, append-nil, refl, sym, ap, ◌∙◌, subst, arith, drop-cons, add-one}
use Rattle.std.proofs.lemmas.List.{drop_all}
use Rattle.std.proofs.lemmas.Bool.{false≢true}
use Rattle.std.proofs.lemmas.Bool.Decides.{nat_tests}
use Rattle.std.specs.List.{list_all}
use Rattle.lti_outside.proofs.BoolLemmas.{and_split, or_split}
use Rattle.pox_outcomes.specs.Language.{StopsAt, Reads}
use Rattle.pox_outcomes.specs.Characters.{is_within, IsByteIn, IsRow, row_at, rows, IsCharacter, behind, BeginsBeside, are_ranges}
use Rattle.pox_outcomes.proofs.SequenceLemmas.{then_free}
use Rattle.pox_outcomes.proofs.LanguageLemmas.{IsPrefixFree, Leads, leads_first, leads_then, no_cons}

range_free : (range : ℕ × ℕ) → IsPrefixFree (IsByteIn range)
range_free range x y r s a c e =
    let head : a.0 ∷ r ≡ c.0 ∷ s = sym (ap (λ t. t ++ r) a.1) ∙ e ∙ ap (λ t. t ++ s) c.1 in
    let same : a.0 ≡ c.0 = cc in
    a.1 ∙ ap (λ b. b ∷ []) same ∙ sym c.1

pub leads_range : (range : ℕ × ℕ) (row : List (ℕ × ℕ)) (b : ℕ) (rest : List ℕ) → is_within range b ≡ true → Leads (IsRow (range ∷ row)) (b ∷ rest) (IsRow row) rest
leads_range range row b rest is = leads_first (b ∷ rest) rest (range_free range) (record { front = b ∷ []; are = refl; is = (b, refl, is) })

pub row_one : (row : List (ℕ × ℕ)) → are_ranges row ≡ true → (x : List ℕ) × IsRow row x
row_one [] are = ([], refl)
row_one (range ∷ row) are =
    let both = and_split (is_within range range.0) (are_ranges row) are in
    let rest = row_one row both.1 in
    (range.0 ∷ rest.0, record { front = range.0 ∷ []; back = rest.0; are = refl; first = (range.0, refl, both.0); second = rest.1 })

pub free_row : (row : List (ℕ × ℕ)) → IsPrefixFree (IsRow row)
free_row [] = λ x y r s a c e. a ∙ sym c
free_row (range ∷ row) = then_free (range_free range) (free_row row)

-- ---- the loop over a row

-- what is left of the row is to be read from the rest
pub record Going (row : List (ℕ × ℕ)) (bytes : List ℕ) (at : ℕ) (rest : List ℕ) : Type 0 where
  pub leads : Leads (IsRow row) bytes (IsRow (drop at row)) rest
  pub are : are_ranges (drop at row) ≡ true

at_step : (row : List (ℕ × ℕ)) (at : ℕ) → at < length row → drop at row ≡ get_or row at (0, 0) ∷ drop (at + 1) row
at_step row at within = drop-cons row at (0, 0) within ∙ ap (λ n. get_or row at (0, 0) ∷ drop n row) (sym (add-one at))

pub going_on : (row : List (ℕ × ℕ)) (bytes rest : List ℕ) (at b : ℕ) → at < length row → is_within (get_or row at (0, 0)) b ≡ true → Going row bytes at (b ∷ rest) → Going row bytes (at + 1) rest
going_on row bytes rest at b within is going =
    let range = get_or row at (0, 0) in
    let m = drop (at + 1) row in
    let step = at_step row at within in
    let leads : Leads (IsRow row) bytes (IsRow (range ∷ m)) (b ∷ rest) = subst (λ t. Leads (IsRow row) bytes (IsRow t) (b ∷ rest)) step going.leads in
    let are : are_ranges (range ∷ m) ≡ true = subst (λ t. are_ranges t ≡ true) step going.are in
    record { leads = leads_then bytes (b ∷ rest) rest leads (leads_range range m b rest is); are = (and_split (is_within range range.0) (are_ranges m) are).1 }

pub going_end : (row : List (ℕ × ℕ)) (bytes rest : List ℕ) (at : ℕ) → length row ≤ at → Going row bytes at rest → Reads (IsRow row) bytes rest
going_end row bytes rest at past going =
    let done : drop at row ≡ [] = drop_all at row past in
    let leads : Leads (IsRow row) bytes (IsRow []) rest = subst (λ t. Leads (IsRow row) bytes (IsRow t) rest) done going.leads in
    record { front = leads.front; are = leads.are; is = subst (IsRow row) (append-nil leads.front) (leads.into [] refl) }

otherwise : (range : ℕ × ℕ) (b : ℕ) (m rest p q r : List ℕ) → is_within range b ≡ true → BeginsBeside range rest → p ++ q ≡ b ∷ m → rest ≡ p ++ r → (length rest ≤ length r) × (q ≢ [])
otherwise range b m rest [] q r is fails e same = (omega (arith, ap length same), no_cons q b m e)
otherwise range b m [] (c ∷ p) q r is fails e same = absurd (cc)
otherwise range b m (d ∷ rest) (c ∷ p) q r is fails e same =
    let first : b ≡ d = cc in
    absurd (fails (subst (λ (b : ℕ). is_within range b ≡ true) first is))

stops_range : (range : ℕ × ℕ) (row : List (ℕ × ℕ)) (rest : List ℕ) → are_ranges (range ∷ row) ≡ true → BeginsBeside range rest → StopsAt (IsRow (range ∷ row)) rest (length rest)
stops_range range row rest are fails = record {
  front = [];
  rest = rest;
  are = refl;
  left_is = refl;
  begins = row_one (range ∷ row) are;
  apart = λ p q r d e. otherwise range d.first.0 d.back rest p q r d.first.2 fails (d.are ∙ ap (λ t. t ++ d.back) d.first.1) e;
}

pub going_stops : (row : List (ℕ × ℕ)) (bytes rest : List ℕ) (at : ℕ) → at < length row → BeginsBeside (get_or row at (0, 0)) rest → Going row bytes at rest → StopsAt (IsRow row) bytes (length rest)
going_stops row bytes rest at within fails going =
    let range = get_or row at (0, 0) in
    let m = drop (at + 1) row in
    let step = at_step row at within in
    going.leads.stops (length rest) (subst (λ t. StopsAt (IsRow t) rest (length rest)) (sym step) (stops_range range m rest (subst (λ t. are_ranges t ≡ true) step going.are) fails))

pub row_passes : (P : List (ℕ × ℕ) → Bool) (table : List (List (ℕ × ℕ))) (at : ℕ) → at < length table → list_all P table ≡ true → P (row_at table at) ≡ true
row_passes P [] at within all = absurd (omega arith)
row_passes P (row ∷ table) zero within all = (and_split (P row) (list_all P table) all).0
row_passes P (row ∷ table) (suc at) within all = row_passes P table at (omega (arith, within)) (and_split (P row) (list_all P table) all).1

pub ranges_at : (table : List (List (ℕ × ℕ))) (at : ℕ) → list_all are_ranges table ≡ true → are_ranges (row_at table at) ≡ true
ranges_at [] at all = refl
ranges_at (row ∷ table) zero all = (and_split (are_ranges row) (list_all are_ranges table) all).0
ranges_at (row ∷ table) (suc at) all = ranges_at table at (and_split (are_ranges row) (list_all are_ranges table) all).1

-- the row behind the reference at a place
pub behind_at : (table : List (Bor (List (ℕ × ℕ)))) (at : ℕ) → (get_or table at (record { ref_ptr = (0, 0); now = [] })).now ≡ row_at (behind table) at
behind_at [] at = refl
behind_at (row ∷ table) zero = refl
behind_at (row ∷ table) (suc at) = behind_at table at

-- ---- rows that don't begin alike

abbrev disjoint : ℕ × ℕ → ℕ × ℕ → Bool
disjoint a b = nat_lt a.1 b.0 || nat_lt b.1 a.0

-- some byte can't be of both rows
abbrev rows_differ : List (ℕ × ℕ) → List (ℕ × ℕ) → Bool
rows_differ [] n = false
rows_differ (a ∷ m) [] = false
rows_differ (a ∷ m) (b ∷ n) = disjoint a b || rows_differ m n

not_both : (a b : ℕ × ℕ) (x : ℕ) → disjoint a b ≡ true → is_within a x ≡ true → is_within b x ≡ true → ⊥
not_both a b x apart first second = grind (arith, nat_tests)

apart_rows : (m n : List (ℕ × ℕ)) → rows_differ m n ≡ true → (x y r s : List ℕ) → IsRow m x → IsRow n y → x ++ r ≡ y ++ s → ⊥
apart_rows [] n differs x y r s a d e = false≢true differs
apart_rows (p ∷ m) [] differs x y r s a d e = false≢true differs
apart_rows (p ∷ m) (q ∷ n) differs x y r s a d e =
    let ea : x ++ r ≡ a.first.0 ∷ (a.back ++ r) = ap (λ t. t ++ r) (a.are ∙ ap (λ t. t ++ a.back) a.first.1) in
    let ed : y ++ s ≡ d.first.0 ∷ (d.back ++ s) = ap (λ t. t ++ s) (d.are ∙ ap (λ t. t ++ d.back) d.first.1) in
    let whole : a.first.0 ∷ (a.back ++ r) ≡ d.first.0 ∷ (d.back ++ s) = sym ea ∙ e ∙ ed in
    let head : a.first.0 ≡ d.first.0 = cc in
    let tails : a.back ++ r ≡ d.back ++ s = cc in
    ⊎_elim (λ h. not_both p q d.first.0 h (subst (λ (b : ℕ). is_within p b ≡ true) head a.first.2) d.first.2)
    (λ h. apart_rows m n h a.back d.back r s a.second d.second tails)
    (or_split (disjoint p q) (rows_differ m n) differs)

abbrev are_rows : List (List (ℕ × ℕ)) → Bool
are_rows [] = true
are_rows (row ∷ rest) = list_all (λ other. rows_differ row other) rest && are_rows rest

rows_once : (rest : List (List (ℕ × ℕ))) → are_rows rest ≡ true → (i j : ℕ) → i < length rest → j < length rest → (x y r s : List ℕ) → IsRow (row_at rest i) x → IsRow (row_at rest j) y → x ++ r ≡ y ++ s → x ≡ y
rows_once [] all i j li lj x y r s a d e = absurd (omega arith)
rows_once (row ∷ rest) all zero zero li lj x y r s a d e = free_row row x y r s a d e
rows_once (row ∷ rest) all zero (suc j) li lj x y r s a d e =
    absurd (apart_rows row (row_at rest j) (row_passes (λ other. rows_differ row other) rest j (omega arith) (and_split (list_all (λ other. rows_differ row other) rest) (are_rows rest) all).0) x y r s a d e)
rows_once (row ∷ rest) all (suc i) zero li lj x y r s a d e =
    absurd (apart_rows row (row_at rest i) (row_passes (λ other. rows_differ row other) rest i (omega arith) (and_split (list_all (λ other. rows_differ row other) rest) (are_rows rest) all).0) y x s r d a (sym e))
rows_once (row ∷ rest) all (suc i) (suc j) li lj x y r s a d e =
    rows_once rest (and_split (list_all (λ other. rows_differ row other) rest) (are_rows rest) all).1 i j (omega arith) (omega arith) x y r s a d e

-- no character begins another
pub free_character : IsPrefixFree IsCharacter
free_character x y r s a d e = rows_once rows refl a.0 d.0 a.1 d.1 x y r s a.2 d.2 e

-- a row of at least one range
abbrev pub is_nonempty : List (ℕ × ℕ) → Bool
is_nonempty [] = false
is_nonempty (range ∷ row) = true

pub nonempty_at : (place : ℕ) → place < 13 → is_nonempty (row_at rows place) ≡ true
nonempty_at place within = row_passes is_nonempty rows place within refl

pub empty_row : (row : List (ℕ × ℕ)) → is_nonempty row ≡ true → IsRow row [] → ⊥
empty_row [] some_range is = false≢true some_range
empty_row (range ∷ row) some_range is =
    let whole : [] ≡ is.first.0 ∷ is.back = is.are ∙ ap (λ t. t ++ is.back) is.first.1 in
    absurd (cc)
