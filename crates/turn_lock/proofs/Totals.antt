-- Totals over a list of which one member changes, and counts.
use Rattle.std.proofs.Common.{◌≡◌, ◌≢◌, ℕ, zero, suc, ◌+◌, ◌<◌, ◌≤◌, List, [], ◌∷◌, ◌++◌, set, Bool, true, false, eqb, refl, sym, ap, subst, ⊎_elim, arith}
use mathlib.Core.Option.{some, some-ne-none, some-injective}
use mathlib.Core.Logic.{dite}
use native.Mathlib.Decide.{ℕ_discrete, dec_le}
use lib.ListN.{get_elem?}
use Rattle.std.proofs.lemmas.Bool.{eq-eqb, lt-ltb, le-ltb}
use Rattle.std.proofs.lemmas.Bool.Decides.{eqb_tells}
use Rattle.atomic_table.proofs.Lists.{at_set}
use Rattle.turn_lock.specs.Counts.{total, one_if, once_below}

module _ {V : Type 0} (f : V → ℕ) where
  pub total_set : (vs : List V) (i : ℕ) (v w : V) → get_elem? vs i ≡ some v → total f (set vs i w) + f v ≡ total f vs + f w
  total_set [] i v w at = absurd (some-ne-none v (sym at))
  total_set (x ∷ xs) zero v w at = let e : f x ≡ f v = ap f (some-injective x v at) in omega arith
  total_set (x ∷ xs) (suc i) v w at = let r = total_set xs i v w at in omega arith

  pub total_at : (vs : List V) (i : ℕ) (v : V) → get_elem? vs i ≡ some v → f v ≤ total f vs
  total_at [] i v at = absurd (some-ne-none v (sym at))
  total_at (x ∷ xs) zero v at = let e : f x ≡ f v = ap f (some-injective x v at) in omega arith
  total_at (x ∷ xs) (suc i) v at = let r = total_at xs i v at in omega arith

  pub total_more : (vs : List V) (w : V) → total f (vs ++ w ∷ []) ≡ total f vs + f w
  total_more [] w = omega arith
  total_more (x ∷ xs) w = let r = total_more xs w in omega arith

  pub total_none : (vs : List V) → ((i : ℕ) (v : V) → get_elem? vs i ≡ some v → f v ≡ 0) → total f vs ≡ 0
  total_none [] h = refl
  total_none (x ∷ xs) h = let a = h 0 x refl in let r = total_none xs (λ i v at. h (suc i) v at) in omega arith

  module _ (g : V → ℕ) where
    pub total_le : (vs : List V) → ((i : ℕ) (v : V) → get_elem? vs i ≡ some v → f v ≤ g v) → total f vs ≤ total g vs
    total_le [] h = omega arith
    total_le (x ∷ xs) h = let a = h 0 x refl in let r = total_le xs (λ i v at. h (suc i) v at) in omega arith

    -- where one member has less of f than of g, and none has more
    pub total_less : (vs : List V) (i : ℕ) (v : V) → ((j : ℕ) (u : V) → get_elem? vs j ≡ some u → f u ≤ g u) → get_elem? vs i ≡ some v → f v + 1 ≤ g v → total f vs + 1 ≤ total g vs
    total_less [] i v h at less = absurd (some-ne-none v (sym at))
    total_less (x ∷ xs) zero v h at less = let e : f x ≡ f v = ap f (some-injective x v at) in let k : g x ≡ g v = ap g (some-injective x v at) in
        let r = total_le xs (λ j u a. h (suc j) u a) in omega arith
    total_less (x ∷ xs) (suc i) v h at less = let a = h 0 x refl in let r = total_less xs i v (λ j u b. h (suc j) u b) at less in omega arith

-- what holds of each view holds after one changes
pub each_set : {V : Type 0} (P : V → Type 0) (vs : List V) (i : ℕ) (w : V) → ((j : ℕ) (u : V) → get_elem? vs j ≡ some u → P u) → P w → (j : ℕ) (u : V) → get_elem? (set vs i w) j ≡ some u → P u
each_set P vs i w others mine j u at = ⊎_elim (λ t. subst P t.1 mine) (λ t. others j u t.1) (at_set vs i j w u at)

pub below_in : (x n : ℕ) → x < n → once_below x n ≡ 1
below_in x n h = ap one_if (lt-ltb x n h)

pub below_out : (x n : ℕ) → n ≤ x → once_below x n ≡ 0
below_out x n h = ap one_if (le-ltb x n h)

pub same_one : (x y : ℕ) → x ≡ y → one_if (eqb x y) ≡ 1
same_one x y e = ap one_if (eq-eqb x y e)

pub other_none : (x y : ℕ) → x ≢ y → one_if (eqb x y) ≡ 0
other_none x y ne = ⊎_elim (λ t. absurd (ne t.1)) (λ t. ap one_if t.0) (eqb_tells x y)

pub one_at_most : (b : Bool) → one_if b ≤ 1
one_at_most true = omega arith
one_at_most false = omega arith

-- counting up to n + 1 counts n too
pub below_more : (x n : ℕ) → once_below x (n + 1) ≡ once_below x n + one_if (eqb n x)
below_more x n = dite (ℕ_discrete n x)
    (λ e. let a = below_in x (n + 1) (omega arith) in let b = below_out x n (omega arith) in let c = same_one n x e in omega arith)
    (λ ne. dite (dec_le (n + 1) x)
    (λ le. let a = below_out x (n + 1) le in let b = below_out x n (omega arith) in let c = other_none n x ne in omega arith)
    (λ gt. let a = below_in x (n + 1) (omega arith) in let b = below_in x n (omega arith) in let c = other_none n x ne in omega arith))

pub below_is_in : (x n : ℕ) → 1 ≤ once_below x n → x < n
below_is_in x n h = dite (dec_le n x) (λ le. let a = below_out x n le in absurd (omega arith)) (λ gt. omega arith)

pub below_is_out : (x n : ℕ) → once_below x n ≡ 0 → n ≤ x
below_is_out x n h = dite (dec_le n x) (λ le. le) (λ gt. let a = below_in x n (omega arith) in absurd (omega arith))
