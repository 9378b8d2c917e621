-- A list that nowhere descends is told by how often it holds each member, so pairs have at most one normal form.
use Rattle.std.proofs.Common.{◌≡◌, ◌<◌, ℕ, suc, ◌+◌, Bool, true, false, cond, ◌&&◌, List, [], ◌∷◌, get_or, map, length, refl, sym, ap, ◌∙◌, arith, count_by, Less, Equal, Greater, Ordering, is_lt, nat_cmp}
use Rattle.std.specs.List.{AllByRecursion}
use Rattle.std.specs.List.Sorted.{IsSorted, IsSortedByKey, IsPermutation}
use Rattle.std.specs.Cmp.{IsTotalOrder}
use Rattle.std.specs.Ordering.{ordering_reverse, ordering_then, is_eq}
use Rattle.std.specs.Cmp.{then_total, on_total}
use Rattle.std.specs.Cmp.Lexicographic.{slice_cmp, nat_list_cmp_total, texts_ties, bytes_decides}
use Rattle.lti_outside.specs.declared.pairs.Pair.{Pair}
use Rattle.oauth_text.specs.Normal.{escaped_pair, joined, pair_cmp, same_pair, copies, IsOrderOf, IsNormal}
use Rattle.std.proofs.lemmas.List.{get_or-map, length-map}
use Rattle.std.proofs.lemmas.List.Elements.{All-from_get_or, recursion_from_All}
use Rattle.std.proofs.lemmas.List.Sums.{sum_by-cons}
use Rattle.std.proofs.lemmas.List.Sorted.{sorted_far, ranks_by, IsPermutation-map, sum_by-IsPermutation}

module _ {X : Type 0} {R : X → X → Ordering} {E : X → X → Bool} (order : IsTotalOrder R) (same : (x y : X) → R x y ≡ Equal → x ≡ y) (itself : (x : X) → E x x ≡ true) (apart : (x y : X) → R x y ≡ Less → E x y ≡ false) where
  -- what stands behind the first member isn't below it
  none_below : (x : X) (xs : List X) → IsSorted R (x ∷ xs) → AllByRecursion (λ z. is_lt (R z x) ≡ false) xs
  none_below x xs up =
      recursion_from_All (λ z. is_lt (R z x) ≡ false) xs (All-from_get_or (λ z. is_lt (R z x) ≡ false) xs x (λ k within. sorted_far (λ a b. is_lt (R a b)) (ranks_by order (λ a. a)) (x ∷ xs) up 0 (suc k) x (omega arith) (omega arith)))

  tail_sorted : (x : X) (xs : List X) → IsSorted R (x ∷ xs) → IsSorted R xs
  tail_sorted x xs up = λ k d low high.
      let next : suc k + 1 ≡ suc (k + 1) = omega arith in
      let far : is_lt (R (get_or (x ∷ xs) (suc k + 1) d) (get_or (x ∷ xs) (suc k) d)) ≡ false = up (suc k) d (omega arith) (omega arith) in
      rw next at far

  below_after : (x y z : X) → R x y ≡ Less → (o : Ordering) → R z y ≡ o → is_lt o ≡ false → R x z ≡ Less
  below_after x y z below Less e h = cc
  below_after x y z below Equal e h = order.antisymm x z ∙ ap ordering_reverse (order.congr z y x e ∙ order.antisymm y x ∙ ap ordering_reverse below)
  below_after x y z below Greater e h = order.trans x y z below (order.antisymm y z ∙ ap ordering_reverse e)

  none_equal : (x y : X) (ys : List X) → R x y ≡ Less → AllByRecursion (λ z. is_lt (R z y) ≡ false) ys → count_by (E x) ys ≡ 0
  none_equal x y [] below above = refl
  none_equal x y (z ∷ zs) below above =
      let other = ap (λ b. cond {A = ℕ} b 1 0) (apart x z (below_after x y z below (R z y) refl above.0)) in
      omega (arith, sum_by-cons (λ w. cond (E x w) 1 0) z zs, other, none_equal x y zs below above.1)

  -- a member below the first of a list in order isn't in it
  not_among : (x y : X) (ys : List X) → R x y ≡ Less → IsSorted R (y ∷ ys) → count_by (E x) (y ∷ ys) ≡ 0
  not_among x y ys below up =
      let other = ap (λ b. cond {A = ℕ} b 1 0) (apart x y below) in
      omega (arith, sum_by-cons (λ w. cond (E x w) 1 0) y ys, other, none_equal x y ys below (none_below y ys up))

  counted : (x : X) (xs : List X) → 0 < count_by (E x) (x ∷ xs)
  counted x xs =
      let one = ap (λ b. cond {A = ℕ} b 1 0) (itself x) in
      omega (arith, sum_by-cons (λ w. cond (E x w) 1 0) x xs, one)

  heads_tie : (x y : X) (xs ys : List X) → IsSorted R (x ∷ xs) → IsSorted R (y ∷ ys) → ((p : X) → count_by (E p) (x ∷ xs) ≡ count_by (E p) (y ∷ ys)) → (o : Ordering) → R x y ≡ o → R x y ≡ Equal
  heads_tie x y xs ys up up' often Less e = absurd (omega (arith, counted x xs, often x, not_among x y ys e up'))
  heads_tie x y xs ys up up' often Equal e = e
  heads_tie x y xs ys up up' often Greater e =
      absurd (omega (arith, counted y ys, often y, not_among y x xs (order.antisymm y x ∙ ap ordering_reverse e) up))

  tails_alike : (x y : X) (xs ys : List X) → x ≡ y → ((p : X) → count_by (E p) (x ∷ xs) ≡ count_by (E p) (y ∷ ys)) → (p : X) → count_by (E p) xs ≡ count_by (E p) ys
  tails_alike x y xs ys e often p =
      omega (arith, often p, sum_by-cons (λ w. cond (E p w) 1 0) x xs, sum_by-cons (λ w. cond (E p w) 1 0) y ys, ap (λ z. cond {A = ℕ} (E p z) 1 0) e)

  pub told_by_counts : (xs ys : List X) → IsSorted R xs → IsSorted R ys → ((p : X) → count_by (E p) xs ≡ count_by (E p) ys) → xs ≡ ys
  told_by_counts [] [] up up' often = refl
  told_by_counts [] (y ∷ ys) up up' often = absurd (omega (arith, counted y ys, often y))
  told_by_counts (x ∷ xs) [] up up' often = absurd (omega (arith, counted x xs, often x))
  told_by_counts (x ∷ xs) (y ∷ ys) up up' often =
      let tie = same x y (heads_tie x y xs ys up up' often (R x y) refl) in
      let rest = told_by_counts xs ys (tail_sorted x xs up) (tail_sorted y ys up') (tails_alike x y xs ys tie often) in
      λ i. tie i ∷ rest i

pair_total : IsTotalOrder pair_cmp
pair_total = then_total (on_total (λ p. p.name) nat_list_cmp_total) (on_total (λ p. p.value) nat_list_cmp_total)

bytes_from_tie : (xs ys : List ℕ) → slice_cmp nat_cmp xs ys ≡ Equal → xs ≡ ys
bytes_from_tie xs ys tie = (bytes_decides xs ys).0 (texts_ties xs ys ∙ ap is_eq tie)

then_ties : (o p : Ordering) → ordering_then o p ≡ Equal → (o ≡ Equal) × (p ≡ Equal)
then_ties Less p h = (cc, cc)
then_ties Equal p h = (refl, h)
then_ties Greater p h = (cc, cc)

pair_from_tie : (a b : Pair) → pair_cmp a b ≡ Equal → a ≡ b
pair_from_tie a b tie =
    let both = then_ties (slice_cmp nat_cmp a.name b.name) (slice_cmp nat_cmp a.value b.value) tie in
    let names = bytes_from_tie a.name b.name both.0 in
    let values = bytes_from_tie a.value b.value both.1 in
    λ i. record { name = names i; value = values i }

pair_itself : (a : Pair) → same_pair a a ≡ true
pair_itself a =
    let names = (bytes_decides a.name a.name).1 refl in
    let values = (bytes_decides a.value a.value).1 refl in
    λ i. names i && values i

then_apart : (o p : Ordering) → ordering_then o p ≡ Less → (is_eq o && is_eq p) ≡ false
then_apart Less p h = refl
then_apart Equal p h = ap is_eq h
then_apart Greater p h = refl

pair_apart : (a b : Pair) → pair_cmp a b ≡ Less → same_pair a b ≡ false
pair_apart a b below =
    let names = texts_ties a.name b.name in
    let values = texts_ties a.value b.value in
    let tested : same_pair a b ≡ (is_eq (slice_cmp nat_cmp a.name b.name) && is_eq (slice_cmp nat_cmp a.value b.value)) = λ i. names i && values i in
    tested ∙ then_apart (slice_cmp nat_cmp a.name b.name) (slice_cmp nat_cmp a.value b.value) below

-- pairs have at most one normal form
pub normal_once : (ps : List Pair) (t u : List ℕ) → IsNormal ps t → IsNormal ps u → u ≡ t
normal_once ps t u a b =
    let one = told_by_counts pair_total pair_from_tie pair_itself pair_apart b.order a.order b.order_of.rises a.order_of.rises (λ p. b.order_of.same p ∙ sym (a.order_of.same p)) in
    b.is ∙ ap joined one ∙ sym a.is

-- what stands in order by its pair is, as pairs, in order
rises_mapped : {X : Type 0} (f : X → Pair) (xs : List X) → IsSortedByKey f pair_cmp xs → IsSorted pair_cmp (map f xs)
rises_mapped f [] up = λ k d low high. absurd (omega arith)
rises_mapped f (x ∷ xs) up = λ k d low high.
    let within : k + 1 < length (x ∷ xs) = omega (arith, length-map (x ∷ xs) f) in
    rw (get_or-map f (x ∷ xs) (k + 1) x d within, get_or-map f (x ∷ xs) k x d (omega arith)) (up k x (omega arith) within)

-- a sort of what stands for the escaped pairs gives their order
pub order_from_sort : {X : Type 0} (f : X → Pair) (xs ys : List X) (ps : List Pair) → map f xs ≡ map escaped_pair ps → IsPermutation xs ys → IsSortedByKey f pair_cmp ys → IsOrderOf ps (map f ys)
order_from_sort f xs ys ps made moved up = record {
  same = λ p. sum_by-IsPermutation (λ q. cond {A = ℕ} (same_pair p q) 1 0) (map f xs) (map f ys) (IsPermutation-map f xs ys moved) ∙ ap (copies p) made;
  rises = rises_mapped f ys up;
}
