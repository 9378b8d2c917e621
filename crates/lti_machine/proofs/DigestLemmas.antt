-- What the digest tells, part by part.
use Rattle.std.proofs.Common.{◌≡◌, max, ℕ, Bool, true, false, cond, ◌&&◌, ◌||◌, ◌==◌, List, [], ◌∷◌, ◌++◌, map, refl, sym, ap, ◌∙◌, arith}
use Rattle.std.specs.List.{fold, flat_map, list_any}
use Rattle.std.specs.Ordering.{eq_by_cmp}
use Rattle.std.proofs.lemmas.Bool.{cond_both}
use Rattle.std.proofs.lemmas.Bool.Decides.{nat_tests}
use Rattle.std.proofs.lemmas.List.Folds.{list_any-append}
use Rattle.std.proofs.lemmas.List.Sums.{fold-append}
use Rattle.lti_machine.specs.declared.entry.Entry.{Entry}
use Rattle.lti_machine.specs.declared.entry.Effect.TheVariants as effect
use Rattle.lti_machine.specs.declared.standing.Standing.{Standing}
use Rattle.lti_machine.specs.declared.standing.Standing.TheVariants.{Unknown, Empty, Scored}
use Rattle.lti_machine.specs.Rules.{high}
use Rattle.lti_machine.specs.Rows.{RowValue, rows_of}
use Rattle.lti_machine.specs.Placements.{PlacedValue}
use Rattle.lti_machine.specs.Used.{Used, used_of, used_cmp, used}
use Rattle.lti_machine.specs.Placements.{placed_of, put_some, same_place, launch_of}
use Rattle.lti_machine.specs.Digest.{grade_entries, row_entries, placed_entry, used_entry, high_entries, digest}
use Rattle.lti_machine.proofs.UsedLemmas.{same_used, is_used, is_eq-used_cmp, hits, still, has, hits_is, spread, contains-used, contains_is, same_used_list}
use Rattle.lti_machine.proofs.PutLemmas.{map_stays, flat_map_stays}
use Rattle.lti_machine.proofs.RowLemmas.{rows_step, rows_of-append, rows_of-told}
use Rattle.lti_machine.proofs.PlacedLemmas.{placed_of-told}

-- ---- the rows

pub rows_of-digest : (entries : List Entry) (now : ℕ) → rows_of (digest entries now) ≡ rows_of entries
rows_of-digest entries now =
    let rows = flat_map row_entries (rows_of entries) in
    let places = map placed_entry (placed_of entries) in
    let uses = map used_entry (used entries now) in
    rows_of-append ((rows ++ places) ++ uses) (high_entries (high entries))
    ∙ high_stays (high entries == 0) (rows_of ((rows ++ places) ++ uses))
    ∙ rows_of-append (rows ++ places) uses
    ∙ map_stays rows_step used_entry (rows_of (rows ++ places)) (λ _. refl) (used entries now)
    ∙ rows_of-append rows places
    ∙ map_stays rows_step placed_entry (rows_of rows) (λ _. refl) (placed_of entries)
    ∙ rows_of-told entries
  where
    high_stays : (b : Bool) (z : List RowValue) → fold rows_step z (cond b [] (record { moment = high entries; key = []; timestamp = 0; nonce = []; effect = effect.Nothing } ∷ [])) ≡ z
    high_stays true z = refl
    high_stays false z = refl

-- ---- the placements

abbrev pub placed_step : List PlacedValue → Entry → List PlacedValue
placed_step placed e = put_some same_place placed (launch_of e)

grade_stays : (placed : List PlacedValue) (key id : List ℕ) (s : Standing) → fold placed_step placed (grade_entries key id s) ≡ placed
grade_stays placed key id Unknown = refl
grade_stays placed key id Empty = refl
grade_stays placed key id (Scored score) = refl

pub placed_of-digest : (entries : List Entry) (now : ℕ) → placed_of (digest entries now) ≡ placed_of entries
placed_of-digest entries now =
    let rows = flat_map row_entries (rows_of entries) in
    let places = map placed_entry (placed_of entries) in
    let uses = map used_entry (used entries now) in
    fold-append placed_step [] ((rows ++ places) ++ uses) (high_entries (high entries))
    ∙ high_stays (high entries == 0) (placed_of ((rows ++ places) ++ uses))
    ∙ fold-append placed_step [] (rows ++ places) uses
    ∙ map_stays placed_step used_entry (placed_of (rows ++ places)) (λ _. refl) (used entries now)
    ∙ fold-append placed_step [] rows places
    ∙ ap (λ z. fold placed_step z places) (flat_map_stays placed_step row_entries [] (λ row. grade_stays [] row.key row.id row.standing) (rows_of entries))
    ∙ placed_of-told entries
  where
    high_stays : (b : Bool) (z : List PlacedValue) → fold placed_step z (cond b [] (record { moment = high entries; key = []; timestamp = 0; nonce = []; effect = effect.Nothing } ∷ [])) ≡ z
    high_stays true z = refl
    high_stays false z = refl

-- ---- the greatest moment

high-append : (xs ys : List Entry) → high (xs ++ ys) ≡ max (high xs) (high ys)
high-append [] ys = omega arith
high-append (x ∷ xs) ys = omega (arith, high-append xs ys)

high-map : {X : Type 0} (f : X → Entry) → ((x : X) → (f x).moment ≡ 0) → (xs : List X) → high (map f xs) ≡ 0
high-map f none [] = refl
high-map f none (x ∷ xs) = omega (arith, none x, high-map f none xs)

high-grades : (key id : List ℕ) (s : Standing) → high (grade_entries key id s) ≡ 0
high-grades key id Unknown = refl
high-grades key id Empty = refl
high-grades key id (Scored score) = omega arith

high-rows : (rows : List RowValue) → high (flat_map row_entries rows) ≡ 0
high-rows [] = refl
high-rows (r ∷ rows) =
    omega (arith, high-append (grade_entries r.key r.id r.standing) (flat_map row_entries rows), high-grades r.key r.id r.standing, high-rows rows)

high-high : (n : ℕ) → high (high_entries n) ≡ n
high-high n =
    cond_both (n == 0) [] (record { moment = n; key = []; timestamp = 0; nonce = []; effect = effect.Nothing } ∷ []) (λ x. high x ≡ n)
    (λ none. grind (arith, nat_tests))
    (λ _. omega arith)

pub high-digest : (entries : List Entry) (now : ℕ) → high (digest entries now) ≡ high entries
high-digest entries now =
    let rows = flat_map row_entries (rows_of entries) in
    let places = map placed_entry (placed_of entries) in
    let uses = map used_entry (used entries now) in
    omega (
      arith,
      high-append ((rows ++ places) ++ uses) (high_entries (high entries)),
      high-append (rows ++ places) uses,
      high-append rows places,
      high-rows (rows_of entries),
      high-map placed_entry (λ _. refl) (placed_of entries),
      high-map used_entry (λ _. refl) (used entries now),
      high-high (high entries),
    )

-- ---- the nonces

none_hit : {X : Type 0} (p : Entry → Bool) (f : X → Entry) → ((x : X) → p (f x) ≡ false) → (xs : List X) → list_any p (map f xs) ≡ false
none_hit p f none [] = refl
none_hit p f none (x ∷ xs) = λ i. none x i || none_hit p f none xs i

or_none : (b : Bool) → (b || false) ≡ b
or_none true = refl
or_none false = refl

absorbed : (c b : Bool) → (c && (c && b)) ≡ (c && b)
absorbed true b = refl
absorbed false b = refl

module _ (now : ℕ) (u : Used) where
  grades_hit : (key id : List ℕ) (s : Standing) → list_any (hits now u) (grade_entries key id s) ≡ false
  grades_hit key id Unknown = refl
  grades_hit key id Empty = refl
  grades_hit key id (Scored score) = refl

  rows_hit : (rows : List RowValue) → list_any (hits now u) (flat_map row_entries rows) ≡ false
  rows_hit [] = refl
  rows_hit (r ∷ rows) =
      list_any-append (hits now u) (grade_entries r.key r.id r.standing) (flat_map row_entries rows)
      ∙ (λ i. grades_hit r.key r.id r.standing i || rows_hit rows i)

  high_hit : (n : ℕ) → list_any (hits now u) (high_entries n) ≡ false
  high_hit n = cond_both (n == 0) [] (record { moment = n; key = []; timestamp = 0; nonce = []; effect = effect.Nothing } ∷ []) (λ x. list_any (hits now u) x ≡ false) (λ _. refl) (λ _. refl)

  items_has : (us : List Used) → list_any (λ e. same_used u (used_of e)) (map used_entry us) ≡ list_any (eq_by_cmp used_cmp u) us
  items_has [] = refl
  items_has (v ∷ us) = λ i. sym (is_eq-used_cmp u v) i || items_has us i

  -- the entries of the set's stamps have a live one where the set has it
  uses_hit : (entries : List Entry) → list_any (hits now u) (map used_entry (used entries now)) ≡ is_used u (used entries now)
  uses_hit entries =
      spread (still now u) (hits now u) (λ e. same_used u (used_of e)) (map used_entry (used entries now)) (hits_is now u)
      ∙ ap (λ b. still now u && b) (items_has (used entries now) ∙ contains_is entries now u)
      ∙ absorbed (still now u) (has u entries)
      ∙ sym (contains_is entries now u)

  digest_hit : (entries : List Entry) → list_any (hits now u) (digest entries now) ≡ is_used u (used entries now)
  digest_hit entries =
      let rows = flat_map row_entries (rows_of entries) in
      let places = map placed_entry (placed_of entries) in
      let uses = map used_entry (used entries now) in
      list_any-append (hits now u) ((rows ++ places) ++ uses) (high_entries (high entries))
      ∙ (λ i. list_any-append (hits now u) (rows ++ places) uses i || high_hit (high entries) i)
      ∙ or_none (list_any (hits now u) (rows ++ places) || list_any (hits now u) uses)
      ∙ ap (λ b. b || list_any (hits now u) uses) (list_any-append (hits now u) rows places ∙ (λ i. rows_hit (rows_of entries) i || none_hit (hits now u) placed_entry (λ _. refl) (placed_of entries) i))
      ∙ uses_hit entries

pub used-digest : (entries : List Entry) (now : ℕ) → used (digest entries now) now ≡ used entries now
used-digest entries now =
    same_used_list (digest entries now) entries now (λ u. contains-used (digest entries now) now u ∙ digest_hit now u entries)
