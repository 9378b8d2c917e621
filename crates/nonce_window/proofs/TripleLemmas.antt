-- Triples put in order, each once.
use Rattle.std.proofs.Common.{◌≡◌, Bool, true, false, ◌||◌, List, [], ◌∷◌, map, refl, sym, ap, ◌∙◌, ⊎_elim}
use Rattle.std.specs.List.{list_any, dedup, dedup_from, AllByRecursion}
use Rattle.std.specs.List.Sorted.{IsStrictlySortedBy, IsSorted, IsPermutation}
use Rattle.std.specs.Ordering.{eq_by_cmp}
use Rattle.std.specs.Cmp.{IsTotalOrder}
use Rattle.std.specs.declared.cmp.Ordering.{Ordering}
use Rattle.std.specs.declared.cmp.Ordering.TheVariants.{Less}
use Rattle.std.proofs.lemmas.Bool.{cases_Bool, cond-true, cond-false}
use Rattle.std.proofs.lemmas.Cmp.{on_total}
use Rattle.std.proofs.lemmas.List.Kept.{IsStrictlySortedBy-dedup}
use Rattle.std.proofs.lemmas.List.Sorted.{list_any-IsPermutation}
use Rattle.lti_machine.specs.Used.{used_cmp, in_order}
use Rattle.lti_machine.proofs.OrderLemmas.{same_rising, rises-in_order, contains-in_order}
use Rattle.lti_machine.proofs.UsedLemmas.{used_total, used_apart, same_used, is_eq-used_cmp, same_used_parts}
use Rattle.nonce_window.specs.Triples.{used_of_triple}
use Rattle.nonce_window.specs.declared.triple.Triple.{Triple}
use Rattle.nonce_window.proofs.KeyLemmas.{any_map}

abbrev pub triple_cmp : Triple → Triple → Ordering
triple_cmp a b = used_cmp (used_of_triple a) (used_of_triple b)

abbrev pub same_triple : Triple → Triple → Bool
same_triple a b = same_used (used_of_triple a) (used_of_triple b)

triple_total : IsTotalOrder triple_cmp
triple_total = on_total used_of_triple used_total

or_absorbs : (a b c : Bool) → a ≡ b → (a || (b || c)) ≡ (b || c)
or_absorbs true b c same = ap (λ x. x || c) same
or_absorbs false b c same = refl

-- a test that can't tell equal ones apart finds the same
any-dedup_from : {X : Type 0} (same : X → X → Bool) (p : X → Bool) → ((x y : X) → same x y ≡ true → p x ≡ p y) → (k : X) (xs : List X) → list_any p (dedup_from same k xs) ≡ (p k || list_any p xs)
any-dedup_from same p alike k [] = refl
any-dedup_from same p alike k (x ∷ xs) =
    ⊎_elim
    (λ yes. ap (list_any p) (cond-true (same x k) (dedup_from same k xs) (k ∷ dedup_from same x xs) yes) ∙ any-dedup_from same p alike k xs
    ∙ sym (or_absorbs (p k) (p x) (list_any p xs) (sym (alike x k yes)) ∙ ap (λ b. b || list_any p xs) (alike x k yes)))
    (λ no. ap (list_any p) (cond-false (same x k) (dedup_from same k xs) (k ∷ dedup_from same x xs) no) ∙ ap (λ b. p k || b) (any-dedup_from same p alike x xs))
    (cases_Bool (same x k))

any-dedup : {X : Type 0} (same : X → X → Bool) (p : X → Bool) → ((x y : X) → same x y ≡ true → p x ≡ p y) → (xs : List X) → list_any p (dedup same xs) ≡ list_any p xs
any-dedup same p alike [] = refl
any-dedup same p alike (x ∷ xs) = any-dedup_from same p alike x xs

rises_all : (t : Triple) (ts : List Triple) → AllByRecursion (λ y. triple_cmp t y ≡ Less) ts → AllByRecursion (λ y. used_cmp (used_of_triple t) y ≡ Less) (map used_of_triple ts)
rises_all t [] all = tt
rises_all t (x ∷ xs) all = (all.0, rises_all t xs all.1)

rises_map : (ts : List Triple) → IsStrictlySortedBy triple_cmp ts → IsStrictlySortedBy used_cmp (map used_of_triple ts)
unfolding IsStrictlySortedBy
rises_map [] rises = tt
rises_map (t ∷ ts) rises = (rises_all t ts rises.0, rises_map ts rises.1)

-- triples sorted, without repeats
pub put_in_order : (ts sorted : List Triple) → IsPermutation ts sorted → IsSorted triple_cmp sorted → map used_of_triple (dedup same_triple sorted) ≡ in_order used_cmp (map used_of_triple ts)
put_in_order ts sorted moved rises =
    same_rising used_total used_apart (map used_of_triple (dedup same_triple sorted)) (in_order used_cmp (map used_of_triple ts))
    (rises_map (dedup same_triple sorted) (IsStrictlySortedBy-dedup triple_total (λ x y. sym (is_eq-used_cmp (used_of_triple x) (used_of_triple y))) sorted rises))
    (rises-in_order used_total (map used_of_triple ts))
    (λ q. let p = λ (t : Triple). eq_by_cmp used_cmp q (used_of_triple t) in
    any_map (eq_by_cmp used_cmp q) used_of_triple (dedup same_triple sorted)
    ∙ any-dedup same_triple p (λ x y same. ap (eq_by_cmp used_cmp q) (same_used_parts (used_of_triple x) (used_of_triple y) same)) sorted
    ∙ sym (list_any-IsPermutation p ts sorted moved)
    ∙ sym (any_map (eq_by_cmp used_cmp q) used_of_triple ts)
    ∙ sym (contains-in_order used_total (map used_of_triple ts) q))
