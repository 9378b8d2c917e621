-- Lists in which one element passes a test.
use Rattle.std.proofs.Common.{◌≡◌, ℕ, suc, ◌+◌, arith, Bool, true, false, not, ◌||◌, cond, List, [], ◌∷◌, map, refl, sym, ap, ◌∙◌, Some, None, slice_index_or, slice_set}
use Rattle.std.specs.List.{find, filter, position_or_len, list_any}

set_next : {Y : Type 0} (y z : Y) (ys : List Y) (n : ℕ) → slice_set (y ∷ ys) (1 + n) z ≡ y ∷ slice_set ys n z
set_next y z ys n = let next : 1 + n ≡ suc n = omega arith in rw next refl

get_next : {Y : Type 0} (y other : Y) (ys : List Y) (n : ℕ) → slice_index_or (y ∷ ys) (1 + n) other ≡ slice_index_or ys n other
get_next y other ys n = let next : 1 + n ≡ suc n = omega arith in rw next refl

module _ {X : Type 0} (t : X → Bool) where
  -- none passes
  pub find_nowhere : (xs : List X) → find t xs ≡ None → list_any t xs ≡ false
  find_nowhere [] is = refl
  find_nowhere (x ∷ xs) is = by (t x) is (find_nowhere xs)
    where
      by : (b : Bool) → cond b (Some x) (find t xs) ≡ None → (find t xs ≡ None → list_any t xs ≡ false) → (b || list_any t xs) ≡ false
      by true e more = absurd (cc)
      by false e more = more e

  -- the one that was found passes
  pub find_passes : (xs : List X) (x : X) → find t xs ≡ Some x → t x ≡ true
  find_passes [] x is = absurd (cc)
  find_passes (y ∷ xs) x is = by (t y) refl is (find_passes xs x)
    where
      by : (b : Bool) → t y ≡ b → cond b (Some y) (find t xs) ≡ Some x → (find t xs ≡ Some x → t x ≡ true) → t x ≡ true
      by true here e more = let same : y ≡ x = cc in ap t (sym same) ∙ here
      by false here e more = more e

  pub find_some : (xs : List X) (x : X) → find t xs ≡ Some x → list_any t xs ≡ true
  find_some [] x is = absurd (cc)
  find_some (y ∷ xs) x is = by (t y) is (find_some xs x)
    where
      by : (b : Bool) → cond b (Some y) (find t xs) ≡ Some x → (find t xs ≡ Some x → list_any t xs ≡ true) → (b || list_any t xs) ≡ true
      by true e more = refl
      by false e more = more e

  pub any_none : ((x : X) → t x ≡ false) → (xs : List X) → list_any t xs ≡ false
  any_none none [] = refl
  any_none none (x ∷ xs) = rw (none x) (any_none none xs)

  none_kept : (xs : List X) → filter t xs ≡ [] → list_any t xs ≡ false
  none_kept [] is = refl
  none_kept (x ∷ xs) is = by (t x) is (none_kept xs)
    where
      by : (b : Bool) → cond b (x ∷ filter t xs) (filter t xs) ≡ [] → (filter t xs ≡ [] → list_any t xs ≡ false) → (b || list_any t xs) ≡ false
      by true e more = absurd (cc)
      by false e more = more e

  module _ {Y : Type 0} (g h : X → Y) (same : (x : X) → t x ≡ false → h x ≡ g x) where
    -- what passes nowhere changes nothing
    pub map_kept : (xs : List X) → list_any t xs ≡ false → map h xs ≡ map g xs
    map_kept [] none = refl
    map_kept (x ∷ xs) none = by (t x) refl none (map_kept xs)
      where
        by : (b : Bool) → t x ≡ b → (b || list_any t xs) ≡ false → (list_any t xs ≡ false → map h xs ≡ map g xs) → h x ∷ map h xs ≡ g x ∷ map g xs
        by true here e more = absurd (cc)
        by false here e more = λ i. same x here i ∷ more e i

    -- where one passes, the list changes at its place
    pub map_set : (xs : List X) (x : X) → filter t xs ≡ x ∷ [] → map h xs ≡ slice_set (map g xs) (position_or_len t xs) (h x)
    map_set [] x one = absurd (cc)
    map_set (y ∷ xs) x one = by (t y) refl one (map_set xs x)
      where
        by : (b : Bool) → t y ≡ b → cond b (y ∷ filter t xs) (filter t xs) ≡ x ∷ []
            → (filter t xs ≡ x ∷ [] → map h xs ≡ slice_set (map g xs) (position_or_len t xs) (h x))
            → h y ∷ map h xs ≡ slice_set (g y ∷ map g xs) (cond (not b) (1 + position_or_len t xs) 0) (h x)
        by true here e more =
            let found : y ≡ x = cc in
            let others : filter t xs ≡ [] = cc in
            λ i. h (found i) ∷ map_kept xs (none_kept xs others) i
        by false here e more = (λ i. same y here i ∷ more e i) ∙ sym (set_next (g y) (h x) (map g xs) (position_or_len t xs))

  -- the value at its place
  pub at_place : {Y : Type 0} (g : X → Y) (other : Y) (xs : List X) (x : X) → filter t xs ≡ x ∷ [] → slice_index_or (map g xs) (position_or_len t xs) other ≡ g x
  at_place g other [] x one = absurd (cc)
  at_place g other (y ∷ xs) x one = by (t y) one (at_place g other xs x)
    where
      by : (b : Bool) → cond b (y ∷ filter t xs) (filter t xs) ≡ x ∷ []
          → (filter t xs ≡ x ∷ [] → slice_index_or (map g xs) (position_or_len t xs) other ≡ g x)
          → slice_index_or (g y ∷ map g xs) (cond (not b) (1 + position_or_len t xs) 0) other ≡ g x
      by true e more = let same : y ≡ x = cc in ap g same
      by false e more = get_next (g y) other (map g xs) (position_or_len t xs) ∙ more e
