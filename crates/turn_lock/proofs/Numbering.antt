-- Numbers that stand once each: how many stand in a pass says whether all do.
use Rattle.std.proofs.Common.{◌≡◌, ℕ, zero, suc, ◌+◌, ◌-◌, ◌<◌, ◌≤◌, List, [], ◌∷◌, length, eqb, refl, sym, ap, ◌∙◌, arith}
use mathlib.Core.Logic.{dite}
use native.Mathlib.Decide.{ℕ_discrete, dec_le}
use Rattle.turn_lock.specs.declared.view.OwnPlaces.{OwnPlaces}
use Rattle.turn_lock.specs.Counts.{one_if, once_below}
use Rattle.turn_lock.specs.Owned.{in_numbers, in_spare}
use Rattle.turn_lock.proofs.Totals.{below_more, below_in, below_out, same_one, other_none}

-- 0 and the spare numbers are all numbers
pub all_numbers : (k n : ℕ) → one_if (eqb 0 k) + in_spare k n ≡ once_below k (n + 1)
all_numbers k zero = let a = below_more k 0 in let b = below_out k 0 (omega arith) in omega arith
all_numbers k (suc n) = let r = all_numbers k n in let a = below_more k (n + 1) in let e : suc n + 1 ≡ (n + 1) + 1 = omega arith in let f : once_below k (suc n + 1) ≡ once_below k ((n + 1) + 1) = ap (once_below k) e in
    let h : one_if (eqb (suc n) k) ≡ one_if (eqb (n + 1) k) = ap (λ (x : ℕ). one_if (eqb x k)) (let e : suc n ≡ n + 1 = omega arith in e) in omega arith

pub spare_less : (k n : ℕ) → 0 < n → in_spare k n ≡ in_spare k (n - 1) + one_if (eqb n k)
spare_less k zero h = absurd (omega arith)
spare_less k (suc n) h = let e : suc n - 1 ≡ n = omega arith in ap (λ (m : ℕ). in_spare k m + one_if (eqb (suc n) k)) (sym e)

-- f of each number below n, added up
abbrev sum_to : (ℕ → ℕ) → ℕ → ℕ
sum_to f zero = 0
sum_to f (suc n) = sum_to f n + f n

sum_both : (f g : ℕ → ℕ) (n : ℕ) → sum_to (λ k. f k + g k) n ≡ sum_to f n + sum_to g n
sum_both f g zero = refl
sum_both f g (suc n) = let r = sum_both f g n in omega arith

sum_none : (n : ℕ) → sum_to (λ k. 0) n ≡ 0
sum_none zero = refl
sum_none (suc n) = let r = sum_none n in omega arith

-- of the numbers below n, x is one at most once
sum_is : (x n : ℕ) → sum_to (λ k. one_if (eqb x k)) n ≡ once_below x n
sum_is x zero = sym (below_out x 0 (omega arith))
sum_is x (suc n) =
    let r = sum_is x n in
    let m = below_more x n in
    let e : once_below x (suc n) ≡ once_below x (n + 1) = ap (once_below x) (let e : suc n ≡ n + 1 = omega arith in e) in
    let s : one_if (eqb x n) ≡ one_if (eqb n x) = dite (ℕ_discrete x n) (λ y. same_one x n y ∙ sym (same_one n x (sym y))) (λ y. other_none x n y ∙ sym (other_none n x (λ z. y (sym z)))) in
    omega arith

module _ (n : ℕ) where
  sum_numbers : (own : List OwnPlaces) → ((k : ℕ) → n ≤ k → in_numbers k own ≡ 0) → sum_to (λ k. in_numbers k own) n ≡ length own
  sum_numbers [] none = sum_none n
  sum_numbers (o ∷ os) none =
      let b = sum_both (λ k. one_if (eqb o.number k)) (λ k. in_numbers k os) n in
      let i = sum_is o.number n in
      let r = sum_numbers os (λ k le. let z = none k le in omega arith) in
      let low : once_below o.number n ≡ 1 =
      dite (dec_le n o.number)
      (λ le. let z = none o.number le in let s = same_one o.number o.number refl in absurd (omega arith))
      (λ lt. below_in o.number n (omega arith)) in
      omega arith

  sum_spare : (spare : ℕ) → ((k : ℕ) → n ≤ k → in_spare k spare ≡ 0) → sum_to (λ k. in_spare k spare) n ≡ spare
  sum_spare zero none = sum_none n
  sum_spare (suc s) none =
      let b = sum_both (λ k. in_spare k s) (λ k. one_if (eqb (suc s) k)) n in
      let i = sum_is (suc s) n in
      let r = sum_spare s (λ k le. let z = none k le in omega arith) in
      let low : once_below (suc s) n ≡ 1 =
      dite (dec_le n (suc s))
      (λ le. let z = none (suc s) le in let t = same_one (suc s) (suc s) refl in absurd (omega arith))
      (λ lt. below_in (suc s) n (omega arith)) in
      omega arith

sum_most : (f : ℕ → ℕ) (n : ℕ) → ((k : ℕ) → k < n → f k ≤ 1) → sum_to f n ≤ n
sum_most f zero most = omega arith
sum_most f (suc n) most = let r = sum_most f n (λ k lt. most k (omega arith)) in let m = most n (omega arith) in omega arith

sum_full : (f : ℕ → ℕ) (n : ℕ) → ((k : ℕ) → k < n → f k ≤ 1) → sum_to f n ≡ n → (k : ℕ) → k < n → f k ≡ 1
sum_full f zero most full k lt = absurd (omega arith)
sum_full f (suc n) most full k lt =
    let r = sum_most f n (λ j l. most j (omega arith)) in
    let m = most n (omega arith) in
    dite (ℕ_discrete n k)
    (λ e. let s : f n ≡ f k = ap f e in omega arith)
    (λ ne. sum_full f n (λ j l. most j (omega arith)) (omega arith) k (let lt' : k < n = dite (dec_le n k) (λ le. absurd (ne (omega arith))) (λ y. omega arith) in lt'))

sum_each : (f : ℕ → ℕ) (n : ℕ) → ((k : ℕ) → k < n → f k ≡ 1) → sum_to f n ≡ n
sum_each f zero each = refl
sum_each f (suc n) each = let r = sum_each f n (λ k lt. each k (omega arith)) in let m = each n (omega arith) in omega arith

module _ (own : List OwnPlaces) (spare n : ℕ) (once : (k : ℕ) → in_numbers k own + in_spare k spare ≤ once_below k n) where
  abbrev stand : ℕ → ℕ
  stand k = in_numbers k own + in_spare k spare

  none_above : (k : ℕ) → n ≤ k → stand k ≡ 0
  none_above k le = let o = once k in let z = below_out k n le in let e : stand k ≡ in_numbers k own + in_spare k spare = refl in omega arith

  stands_sum : sum_to stand n ≡ length own + spare
  stands_sum =
      let b = sum_both (λ k. in_numbers k own) (λ k. in_spare k spare) n in
      let o = sum_numbers n own (λ k le. let z = none_above k le in omega arith) in
      let s = sum_spare n spare (λ k le. let z = none_above k le in omega arith) in
      omega arith

  one_at_most_each : (k : ℕ) → k < n → stand k ≤ 1
  one_at_most_each k lt = let o = once k in let b = below_in k n lt in omega arith

  -- where as many stand as there are, each does
  pub count_whole : length own + spare ≡ n → (k : ℕ) → in_numbers k own + in_spare k spare ≡ once_below k n
  count_whole all k =
      dite (dec_le n k)
      (λ le. none_above k le ∙ sym (below_out k n le))
      (λ lt. let l : k < n = omega arith in sum_full stand n one_at_most_each (stands_sum ∙ all) k l ∙ sym (below_in k n l))

  -- where each stands, as many stand as there are
  pub whole_count : ((k : ℕ) → in_numbers k own + in_spare k spare ≡ once_below k n) → length own + spare ≡ n
  whole_count each = sym stands_sum ∙ sum_each stand n (λ k lt. each k ∙ below_in k n lt)
