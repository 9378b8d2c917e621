-- The rows of the entries that tell rows are those rows.
use Rattle.std.proofs.Common.{◌≡◌, ℕ, Bool, true, false, true≢false, List, [], ◌∷◌, ◌++◌, map, refl, sym, ap, subst, ◌∙◌, append_assoc, append-nil, bytes_eq}
use Rattle.std.specs.Cmp.{IsEquivalence}
use Rattle.std.specs.Cmp.Lexicographic.{nat_list_eq_equiv}
use Rattle.std.specs.List.{fold, flat_map, list_any, AllByRecursion, IsDistinct}
use Rattle.std.proofs.lemmas.Bool.{cond-true, cond-false, and_from, or_parts}
use Rattle.std.proofs.lemmas.Cmp.{on_equiv, and_equiv}
use Rattle.std.proofs.lemmas.List.Sums.{fold-append}
use Rattle.lti_machine.specs.declared.entry.Entry.{Entry}
use Rattle.lti_machine.specs.declared.standing.Standing.{Standing}
use Rattle.lti_machine.specs.declared.standing.Standing.TheVariants.{Unknown, Empty, Scored}
use Rattle.lti_machine.specs.Standings.{standing}
use Rattle.lti_machine.specs.Rows.{Owned, RowValue, same_owned, issued, rows_of}
use Rattle.lti_machine.specs.Rows.{is_row}
use Rattle.lti_machine.specs.Rows.{has_row, set_row}
use Rattle.lti_machine.proofs.TextTests.{bytes_same}
use Rattle.lti_machine.proofs.IssuedLemmas.{is_known, Apart, AreKnown, row_by, known_head, known_tail, issued_apart, known_is_issued}
use Rattle.lti_machine.specs.Rows.{rows_after}
use Rattle.lti_machine.proofs.RowsAfter.{rows_of-push}
use Rattle.lti_machine.specs.Digest.{row_entries}
use Rattle.lti_machine.proofs.PutLemmas.{folds, new_behind}

-- the same id under the same key
abbrev pub same_row : RowValue → RowValue → Bool
same_row a b = is_row a.key a.id b

rows_equiv : IsEquivalence same_row
rows_equiv = and_equiv (on_equiv (λ (r : RowValue). r.key) nat_list_eq_equiv) (on_equiv (λ (r : RowValue). r.id) nat_list_eq_equiv)

abbrev pub rows_step : List RowValue → Entry → List RowValue
rows_step rows entry = rows_after rows entry.key entry.effect

pub rows_of-append : (xs ys : List Entry) → rows_of (xs ++ ys) ≡ fold rows_step (rows_of xs) ys
rows_of-append = folds rows_step rows_of rows_of-push

-- ---- no id repeats in the rows, and each is known

abbrev AreKnownRows : List RowValue → Type 0
AreKnownRows rows = AllByRecursion (λ row. is_known row.standing ≡ true) rows

module _ (stands : List ℕ → List ℕ → Standing) where
  others : (p : Owned) (ps : List Owned) → list_any (same_owned p) ps ≡ false → AllByRecursion (λ row. same_row (row_by stands p) row ≡ false) (map (row_by stands) ps)
  others p [] new = tt
  others p (q ∷ qs) new =
      let parts = or_parts (same_owned p q) (list_any (same_owned p) qs) new in
      (parts.0, others p qs parts.1)

  distinct_by : (os : List Owned) → Apart os → IsDistinct same_row (map (row_by stands) os)
  unfolding IsDistinct
  distinct_by [] apart = tt
  distinct_by (p ∷ ps) apart = (others p ps apart.0, distinct_by ps apart.1)

  known_by : (os : List Owned) → AreKnown stands os → AreKnownRows (map (row_by stands) os)
  known_by [] known = tt
  known_by (p ∷ ps) known = (known_head stands p ps known, known_by ps (known_tail stands p ps known))

-- ---- told one by one

set_last : (rows : List RowValue) (key id : List ℕ) (s w : Standing) → has_row rows key id ≡ false
    → set_row (rows ++ record { key = key; id = id; standing = s } ∷ []) key id w ≡ rows ++ record { key = key; id = id; standing = w } ∷ []
set_last [] key id s w new =
    let row : RowValue = record { key = key; id = id; standing = s } in
    cond-true (is_row key id row) (record row { standing = w } ∷ []) (row ∷ []) (and_from (bytes_eq key key) (bytes_eq id id) (bytes_same key key refl) (bytes_same id id refl))
set_last (r ∷ rows) key id s w new =
    let parts = or_parts (is_row key id r) (has_row rows key id) new in
    let row : RowValue = record { key = key; id = id; standing = s } in
    cond-false (is_row key id r) (record r { standing = w } ∷ (rows ++ row ∷ [])) (r ∷ set_row (rows ++ row ∷ []) key id w) parts.0
    ∙ ap (λ rest. r ∷ rest) (set_last rows key id s w parts.1)

row_told : (rows : List RowValue) (key id : List ℕ) (s : Standing) → is_known s ≡ true → has_row rows key id ≡ false
    → fold rows_step rows (row_entries (record { key = key; id = id; standing = s })) ≡ rows ++ record { key = key; id = id; standing = s } ∷ []
row_told rows key id Unknown known new = absurd (true≢false (sym known))
row_told rows key id Empty known new = cond-false (has_row rows key id) rows (rows ++ record { key = key; id = id; standing = Empty } ∷ []) new
row_told rows key id (Scored score) known new =
    ap (λ all. set_row all key id (Scored score)) (cond-false (has_row rows key id) rows (rows ++ record { key = key; id = id; standing = Empty } ∷ []) new)
    ∙ set_last rows key id Empty (Scored score) new

rows_told : (front rows : List RowValue) → IsDistinct same_row (front ++ rows) → AreKnownRows rows → fold rows_step front (flat_map row_entries rows) ≡ front ++ rows
rows_told front [] distinct known = sym (append-nil front)
rows_told front (r ∷ rows) distinct known =
    let regroup = append_assoc front (r ∷ []) rows in
    fold-append rows_step front (row_entries r) (flat_map row_entries rows)
    ∙ ap (λ z. fold rows_step z (flat_map row_entries rows)) (row_told front r.key r.id r.standing known.0 (new_behind rows_equiv front r rows distinct))
    ∙ rows_told (front ++ r ∷ []) rows (subst (IsDistinct same_row) (sym regroup) distinct) known.1
    ∙ regroup

pub rows_of-told : (entries : List Entry) → rows_of (flat_map row_entries (rows_of entries)) ≡ rows_of entries
rows_of-told entries =
    rows_of-append [] (flat_map row_entries (rows_of entries))
    ∙ rows_told [] (rows_of entries) (distinct_by (standing entries) (issued entries) (issued_apart entries)) (known_by (standing entries) (issued entries) (λ p there. known_is_issued entries p ∙ there))
