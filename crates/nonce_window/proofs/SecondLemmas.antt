-- The seconds whose bits are set.
use Rattle.std.proofs.Common.{◌≡◌, ◌<◌, ◌≤◌, ℕ, zero, suc, Bool, true, false, cond, ◌||◌, List, [], ◌∷◌, ◌++◌, filter, nat_eq, refl, sym, ap, ◌∙◌, arith, append_assoc, ⊎_elim, ◌≢◌}
use Rattle.std.specs.List.{list_any}
use Rattle.std.proofs.lemmas.Bool.{cond_both, cases_order, cases_eq, false_from_ne_true, eqb-true}
use Rattle.std.proofs.lemmas.List.Elements.{filter-append}
use Rattle.std.proofs.lemmas.List.Folds.{list_any-append}
use Rattle.std.proofs.lemmas.Bool.Decides.{nat_tests}
use Rattle.nonce_window.specs.Added.{IsAdded}
use Rattle.nonce_window.specs.Minutes.{below}

or_none : (b : Bool) → (b || false) ≡ b
or_none true = refl
or_none false = refl

abbrev pub one : (ℕ → Bool) → ℕ → List ℕ
one p n = filter p (n ∷ [])

less_from : (s n : ℕ) → s < suc n → s ≢ n → s < n
less_from s n h other = ⊎_elim (λ same. absurd (other same)) (λ apart. ⊎_elim (λ is. is) (λ above. absurd (omega (arith, above, h))) apart) (cases_order s n)

pub last : (p : ℕ → Bool) (n : ℕ) → filter p (below (suc n)) ≡ filter p (below n) ++ one p n
unfolding below
last p n = filter-append p (below n) (n ∷ [])

-- a number from n on isn't below n
pub any_from : (p : ℕ → Bool) (s n : ℕ) → n ≤ s → list_any (nat_eq s) (filter p (below n)) ≡ false
unfolding below
any_from p s zero h = refl
any_from p s (suc n) h =
    ap (list_any (nat_eq s)) (last p n) ∙ list_any-append (nat_eq s) (filter p (below n)) (one p n)
    ∙ (λ i. any_from p s n (omega arith) i || none i)
  where
    other : nat_eq s n ≡ false
    other = grind (arith, nat_tests)

    none : list_any (nat_eq s) (one p n) ≡ false
    none = cond_both (p n) (n ∷ []) [] (λ x. list_any (nat_eq s) x ≡ false) (λ _. ap (λ b. b || false) other) (λ _. refl)

-- a number below n is among those that pass where it passes
pub any_below : (p : ℕ → Bool) (s n : ℕ) → s < n → list_any (nat_eq s) (filter p (below n)) ≡ p s
any_below p s zero h = absurd (omega (arith, h))
any_below p s (suc n) h =
    ap (list_any (nat_eq s)) (last p n) ∙ list_any-append (nat_eq s) (filter p (below n)) (one p n)
    ∙ ⊎_elim at_end (λ other. before other (any_below p s n (less_from s n h other))) (cases_eq s n)
  where
    at_end : s ≡ n → (list_any (nat_eq s) (filter p (below n)) || list_any (nat_eq s) (one p n)) ≡ p s
    at_end is =
        let here : nat_eq s n ≡ true = grind (arith, nat_tests) in
        let end : list_any (nat_eq s) (one p n) ≡ p n =
        cond_both (p n) (n ∷ []) [] (λ x. list_any (nat_eq s) x ≡ p n) (λ yes. ap (λ b. b || false) here ∙ sym yes) (λ no. sym no) in
        (λ i. any_from p s n (omega (arith, is)) i || end i) ∙ ap p (sym is)

    before : s ≢ n → list_any (nat_eq s) (filter p (below n)) ≡ p s → (list_any (nat_eq s) (filter p (below n)) || list_any (nat_eq s) (one p n)) ≡ p s
    before other inner =
        let there : nat_eq s n ≡ false = false_from_ne_true (nat_eq s n) (λ e. other (eqb-true s n e)) in
        let end : list_any (nat_eq s) (one p n) ≡ false =
        cond_both (p n) (n ∷ []) [] (λ x. list_any (nat_eq s) x ≡ false) (λ _. ap (λ b. b || false) there) (λ _. refl) in
        (λ i. inner i || end i) ∙ or_none (p s)

-- tests that agree below n pass the same
pub same_below : (p q : ℕ → Bool) (n : ℕ) → ((t : ℕ) → t < n → q t ≡ p t) → filter q (below n) ≡ filter p (below n)
unfolding below
same_below p q zero same = refl
same_below p q (suc n) same =
    last q n ∙ (λ i. same_below p q n (λ t h. same t (omega (arith, h))) i ++ cond (same n (omega arith) i) (n ∷ []) []) ∙ sym (last p n)

pub none_below : (p : ℕ → Bool) (n : ℕ) → ((t : ℕ) → p t ≡ false) → filter p (below n) ≡ []
unfolding below
none_below p zero none = refl
none_below p (suc n) none = last p n ∙ (λ i. none_below p n none i ++ cond (none n i) (n ∷ []) [])

-- one more number passes
pub added_below : (p q : ℕ → Bool) (s n : ℕ) → s < n → p s ≡ false → q s ≡ true → ((t : ℕ) → s ≢ t → q t ≡ p t) → IsAdded (filter p (below n)) s (filter q (below n))
added_below p q s zero h out in_ same = absurd (omega (arith, h))
added_below p q s (suc n) h out in_ same = ⊎_elim at_end (λ other. before other (added_below p q s n (less_from s n h other) out in_ same)) (cases_eq s n)
  where
    at_end : s ≡ n → IsAdded (filter p (below (suc n))) s (filter q (below (suc n)))
    at_end is =
        let ended : one p n ≡ [] = ap (λ b. cond b (n ∷ []) []) (ap p (sym is) ∙ out) in
        let begun : one q n ≡ s ∷ [] = ap (λ b. cond b (n ∷ []) []) (ap q (sym is) ∙ in_) ∙ ap (λ m. m ∷ []) (sym is) in
        let front = same_below p q n (λ t less. same t (λ e. absurd (omega (arith, less, e, is)))) in
        record {
          front = filter p (below n);
          back = [];
          was = last p n ∙ ap (λ l. filter p (below n) ++ l) ended;
          is = last q n ∙ (λ i. front i ++ begun i);
        }

    before : s ≢ n → IsAdded (filter p (below n)) s (filter q (below n)) → IsAdded (filter p (below (suc n))) s (filter q (below (suc n)))
    before other inner =
        record {
          front = inner.front;
          back = inner.back ++ one p n;
          was = last p n ∙ ap (λ l. l ++ one p n) inner.was ∙ append_assoc inner.front inner.back (one p n);
          is = last q n ∙ (λ i. inner.is i ++ cond (same n other i) (n ∷ []) []) ∙ append_assoc inner.front (s ∷ inner.back) (one p n);
        }

-- no number is below 0
pub none_yet : (p : ℕ → Bool) → filter p (below 0) ≡ []
unfolding below
none_yet p = refl
