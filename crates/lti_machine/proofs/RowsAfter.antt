-- What one more entry changes in the rows.
use Rattle.std.proofs.Common.{◌≡◌, ℕ, Bool, true, false, true≢false, cond, ◌||◌, List, [], ◌∷◌, ◌++◌, map, refl, sym, ap, ◌∙◌, bytes_eq, if◌then◌else◌}
use Rattle.std.specs.List.{list_any}
use Rattle.std.proofs.lemmas.Bool.{cond-true}
use Rattle.std.proofs.lemmas.List.{map-append}
use Rattle.std.proofs.lemmas.List.Sums.{fold-append}
use Rattle.lti_machine.specs.declared.entry.Entry.{Entry}
use Rattle.lti_machine.specs.declared.entry.Effect.{Effect}
use Rattle.lti_machine.specs.declared.entry.Effect.TheVariants as effect
use Rattle.lti_machine.specs.declared.standing.Standing.{Standing}
use Rattle.lti_machine.specs.declared.standing.Standing.TheVariants.{Unknown, Empty, Scored}
use Rattle.lti_machine.specs.Standings as standings
use Rattle.lti_machine.specs.Rows.{Owned, RowValue, same_owned, after_effect, after_entry, issued, row_of, rows_of, standing_in, set_row, add_row, rows_after}
use Rattle.lti_machine.proofs.IssuedLemmas.{is_known, nested, same_both, same_from_test, same_itself, Apart, AreKnown, row_by, known_head, known_tail, has_row-by, standing_in-by, issued_apart, known_is_issued, unknown_from}

map_same : (f g : Owned → RowValue) (os : List Owned) → ((p : Owned) → g p ≡ f p) → map g os ≡ map f os
map_same f g [] same = refl
map_same f g (p ∷ ps) same = λ i. same p i ∷ map_same f g ps same i

module _ (stands : List ℕ → List ℕ → Standing) where
  -- how each id stands after an effect under a key
  abbrev stands_after : List ℕ → Effect → List ℕ → List ℕ → Standing
  stands_after key x k id = if bytes_eq key k then standings.after_effect id (stands k id) x else stands k id

  module _ (o : Owned) (w : Standing) where
    -- where only the grade of this id changes
    abbrev set_by : List ℕ → List ℕ → Standing
    set_by k id = if bytes_eq o.key k then (if bytes_eq o.id id then standings.when_set (stands k id) w else stands k id) else stands k id

    set_is : (p : Owned) → set_by p.key p.id ≡ cond (same_owned o p) (standings.when_set (stands p.key p.id) w) (stands p.key p.id)
    set_is p = nested (bytes_eq o.key p.key) (bytes_eq o.id p.id) (standings.when_set (stands p.key p.id) w) (stands p.key p.id)

    when_known : (s : Standing) → is_known s ≡ true → standings.when_set s w ≡ w
    when_known Unknown known = absurd (true≢false (sym known))
    when_known Empty known = refl
    when_known (Scored score) known = refl

    -- where the id isn't in the list, nothing changes
    set_elsewhere : (os : List Owned) → list_any (same_owned o) os ≡ false → map (row_by set_by) os ≡ map (row_by stands) os
    set_elsewhere [] missing = refl
    set_elsewhere (p ∷ ps) missing = by (same_owned o p) (list_any (same_owned o) ps) missing (set_is p) (set_elsewhere ps)
      where
        by : (b c : Bool) → (b || c) ≡ false → set_by p.key p.id ≡ cond b (standings.when_set (stands p.key p.id) w) (stands p.key p.id)
            → (c ≡ false → map (row_by set_by) ps ≡ map (row_by stands) ps) → map (row_by set_by) (p ∷ ps) ≡ map (row_by stands) (p ∷ ps)
        by true c missing is rest = absurd (true≢false missing)
        by false c missing is rest = λ i. record { key = p.key; id = p.id; standing = is i } ∷ rest missing i

    rows_set : (os : List Owned) → Apart os → AreKnown stands os → map (row_by set_by) os ≡ set_row (map (row_by stands) os) o.key o.id w
    rows_set [] apart known = refl
    rows_set (p ∷ ps) apart known =
        by (same_owned o p) (set_is p)
        (λ same. set_elsewhere ps (ap (λ q. list_any (same_owned q) ps) (same_from_test o p same) ∙ apart.0))
        (rows_set ps apart.1 (known_tail stands p ps known))
      where
        by : (b : Bool) → set_by p.key p.id ≡ cond b (standings.when_set (stands p.key p.id) w) (stands p.key p.id)
            → (b ≡ true → map (row_by set_by) ps ≡ map (row_by stands) ps)
            → map (row_by set_by) ps ≡ set_row (map (row_by stands) ps) o.key o.id w
            → map (row_by set_by) (p ∷ ps) ≡ cond b (record { key = p.key; id = p.id; standing = w } ∷ map (row_by stands) ps) (row_by stands p ∷ set_row (map (row_by stands) ps) o.key o.id w)
        by true is same rest =
            let at_p = is ∙ when_known (stands p.key p.id) (known_head stands p ps known) in
            λ i. record { key = p.key; id = p.id; standing = at_p i } ∷ same refl i
        by false is same rest = λ i. record { key = p.key; id = p.id; standing = is i } ∷ rest i

  module _ (o : Owned) where
    -- where this id is issued
    abbrev issued_by : List ℕ → List ℕ → Standing
    issued_by k id = if bytes_eq o.key k then (if bytes_eq o.id id then standings.when_issued (stands k id) else stands k id) else stands k id

    issued_is : (p : Owned) → issued_by p.key p.id ≡ cond (same_owned o p) (standings.when_issued (stands p.key p.id)) (stands p.key p.id)
    issued_is p = nested (bytes_eq o.key p.key) (bytes_eq o.id p.id) (standings.when_issued (stands p.key p.id)) (stands p.key p.id)

    still_known : (s : Standing) (b : Bool) → is_known s ≡ true → cond b (standings.when_issued s) s ≡ s
    still_known s false known = refl
    still_known Unknown true known = absurd (true≢false (sym known))
    still_known Empty true known = refl
    still_known (Scored score) true known = refl

    -- the ids of the list keep their grades
    issued_kept : (os : List Owned) → AreKnown stands os → map (row_by issued_by) os ≡ map (row_by stands) os
    issued_kept [] known = refl
    issued_kept (p ∷ ps) known =
        let at_p = issued_is p ∙ still_known (stands p.key p.id) (same_owned o p) (known_head stands p ps known) in
        let rest = issued_kept ps (known_tail stands p ps known) in
        λ i. record { key = p.key; id = p.id; standing = at_p i } ∷ rest i

    rows_issued : (os : List Owned) → ((p : Owned) → is_known (stands p.key p.id) ≡ list_any (same_owned p) os) → AreKnown stands os
        → map (row_by issued_by) (if list_any (same_owned o) os then os else os ++ o ∷ []) ≡ add_row (map (row_by stands) os) (record { key = o.key; id = o.id; standing = Empty })
    rows_issued os known all =
        by (list_any (same_owned o) os) (known o)
        ∙ ap (λ b. cond b (map (row_by stands) os) (map (row_by stands) os ++ record { key = o.key; id = o.id; standing = Empty } ∷ [])) (sym (has_row-by stands o os))
      where
        by : (b : Bool) → is_known (stands o.key o.id) ≡ b → map (row_by issued_by) (cond b os (os ++ o ∷ [])) ≡ cond b (map (row_by stands) os) (map (row_by stands) os ++ record { key = o.key; id = o.id; standing = Empty } ∷ [])
        by true _ = issued_kept os all
        by false new =
            let was = unknown_from (stands o.key o.id) new in
            let at_o : issued_by o.key o.id ≡ Empty =
            issued_is o ∙ cond-true (same_owned o o) (standings.when_issued (stands o.key o.id)) (stands o.key o.id) (same_itself o) ∙ ap standings.when_issued was in
            let kept = issued_kept os all in
            map-append (row_by issued_by) os (o ∷ [])
            ∙ (λ i. kept i ++ record { key = o.key; id = o.id; standing = at_o i } ∷ [])

  rows_effect : (os : List Owned) (key : List ℕ) (x : Effect) → Apart os → ((p : Owned) → is_known (stands p.key p.id) ≡ list_any (same_owned p) os)
      → map (row_by (stands_after key x)) (after_effect os key x) ≡ rows_after (map (row_by stands) os) key x
  rows_effect os key effect.Nothing apart known =
      map_same (row_by stands) (row_by (stands_after key effect.Nothing)) os (λ p. let same = same_both (bytes_eq key p.key) (stands p.key p.id) in λ i. record { key = p.key; id = p.id; standing = same i })
  rows_effect os key (effect.Launch link user sourced_id service) apart known =
      map_same (row_by stands) (row_by (stands_after key (effect.Launch link user sourced_id service))) os (λ p. let same = same_both (bytes_eq key p.key) (stands p.key p.id) in λ i. record { key = p.key; id = p.id; standing = same i })
  rows_effect os key (effect.Grade id score) apart known = rows_set (record { key = key; id = id }) (Scored score) os apart (λ p there. known p ∙ there)
  rows_effect os key (effect.Cleared id) apart known = rows_set (record { key = key; id = id }) Empty os apart (λ p there. known p ∙ there)
  rows_effect os key (effect.Issued id) apart known = rows_issued (record { key = key; id = id }) os known (λ p there. known p ∙ there)

pub rows_of-push : (entries : List Entry) (e : Entry) → rows_of (entries ++ e ∷ []) ≡ rows_after (rows_of entries) e.key e.effect
rows_of-push entries e =
    let ids = fold-append after_entry [] entries (e ∷ []) in
    ap (map (row_of (entries ++ e ∷ []))) ids
    ∙ map_same (row_by (stands_after (standings.standing entries) e.key e.effect)) (row_of (entries ++ e ∷ [])) (after_entry (issued entries) e)
    (λ p. let stands = fold-append (standings.after_entry p.key p.id) Unknown entries (e ∷ []) in λ i. record { key = p.key; id = p.id; standing = stands i })
    ∙ rows_effect (standings.standing entries) (issued entries) e.key e.effect (issued_apart entries) (known_is_issued entries)

-- the rows tell how each id stands
pub standing_in-rows_of : (entries : List Entry) (key id : List ℕ) → standing_in (rows_of entries) key id ≡ standings.standing entries key id
standing_in-rows_of entries key id =
    let o : Owned = record { key = key; id = id } in
    standing_in-by (standings.standing entries) o (issued entries)
    ∙ by (list_any (same_owned o) (issued entries)) (known_is_issued entries o)
  where
    by : (b : Bool) → is_known (standings.standing entries key id) ≡ b → cond b (standings.standing entries key id) Unknown ≡ standings.standing entries key id
    by true _ = refl
    by false unknown = sym (unknown_from (standings.standing entries key id) unknown)
