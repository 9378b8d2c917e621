-- Lists in which each member stands once and in order: what stands in them tells them.
use Rattle.std.proofs.Common.{◌≡◌, Bool, true, false, ◌||◌, List, [], ◌∷◌, refl, sym, ap, ◌∙◌, is_eq}
use Rattle.std.specs.List.{list_any, AllByRecursion}
use Rattle.std.specs.List.Sorted.{IsStrictlySortedBy}
use Rattle.std.specs.Ordering.{ordering_reverse, eq_by_cmp, match_ordering}
use Rattle.std.specs.declared.cmp.Ordering.{Ordering}
use Rattle.std.specs.declared.cmp.Ordering.TheVariants.{Less, Equal, Greater}
use Rattle.std.specs.Cmp.{IsTotalOrder}
use Rattle.std.specs.BTreeSet.{insert_key}
use Rattle.std.proofs.lemmas.Cmp.{alike_right}
use Rattle.std.proofs.lemmas.Map.Lookups.{CmpEqualImpliesEq, btree_set_from_contains}
use Rattle.lti_machine.specs.Used.{in_order}

abbrev pub IsBefore : {K : Type 0} → (K → K → Ordering) → K → List K → Type 0
IsBefore R x ys = AllByRecursion (λ y. R x y ≡ Less) ys

or_swap : (a b c : Bool) → (a || (b || c)) ≡ (b || (a || c))
or_swap true true c = refl
or_swap true false c = refl
or_swap false b c = refl

or_again : (a b : Bool) → (a || b) ≡ (a || (a || b))
or_again true b = refl
or_again false b = refl

module _ {K : Type 0} {R : K → K → Ordering} (o : IsTotalOrder R) where
  -- a list in order is told by what stands in it
  pub same_rising : CmpEqualImpliesEq R → (xs ys : List K) → IsStrictlySortedBy R xs → IsStrictlySortedBy R ys → ((q : K) → list_any (eq_by_cmp R q) xs ≡ list_any (eq_by_cmp R q) ys) → xs ≡ ys
  same_rising apart xs ys one other same = btree_set_from_contains o (record { keys = xs }) (record { keys = ys }) one other same apart

  pub before_further : (x y : K) (zs : List K) → R x y ≡ Less → IsBefore R y zs → IsBefore R x zs
  before_further x y [] less before = tt
  before_further x y (z ∷ zs) less before = (o.trans x y z less before.0, before_further x y zs less before.1)

  before_key : (x k : K) (ys : List K) → R x k ≡ Less → IsBefore R x ys → IsBefore R x (insert_key R ys k)
  before_key x k [] less before = (less, tt)
  before_key x k (y ∷ ys) less before = by (R k y) (before_key x k ys less before.1)
    where
      by : (r : Ordering) → IsBefore R x (insert_key R ys k) → IsBefore R x (match_ordering r (k ∷ y ∷ ys) (y ∷ ys) (y ∷ insert_key R ys k))
      by Less rest = (less, before)
      by Equal rest = before
      by Greater rest = (before.0, rest)

  rises_key : (k : K) (ys : List K) → IsStrictlySortedBy R ys → IsStrictlySortedBy R (insert_key R ys k)
  unfolding IsStrictlySortedBy
  rises_key k [] rises = (tt, tt)
  rises_key k (y ∷ ys) rises = by (R k y) refl (rises_key k ys rises.1)
    where
      by : (r : Ordering) → R k y ≡ r → IsStrictlySortedBy R (insert_key R ys k) → IsStrictlySortedBy R (match_ordering r (k ∷ y ∷ ys) (y ∷ ys) (y ∷ insert_key R ys k))
      by Less is rest = ((is, before_further k y ys is rises.0), rises)
      by Equal is rest = rises
      by Greater is rest = (before_key y k ys (o.antisymm y k ∙ ap ordering_reverse is) rises.0, rest)

  contains_key : (q k : K) (ys : List K) → list_any (eq_by_cmp R q) (insert_key R ys k) ≡ (eq_by_cmp R q k || list_any (eq_by_cmp R q) ys)
  contains_key q k [] = refl
  contains_key q k (y ∷ ys) = by (R k y) refl (contains_key q k ys)
    where
      by : (r : Ordering) → R k y ≡ r → list_any (eq_by_cmp R q) (insert_key R ys k) ≡ (eq_by_cmp R q k || list_any (eq_by_cmp R q) ys)
          → list_any (eq_by_cmp R q) (match_ordering r (k ∷ y ∷ ys) (y ∷ ys) (y ∷ insert_key R ys k)) ≡ (eq_by_cmp R q k || (eq_by_cmp R q y || list_any (eq_by_cmp R q) ys))
      by Less is rest = refl
      by Equal is rest =
          or_again (eq_by_cmp R q y) (list_any (eq_by_cmp R q) ys)
          ∙ ap (λ r. is_eq r || (eq_by_cmp R q y || list_any (eq_by_cmp R q) ys)) (sym (alike_right o k y q is))
      by Greater is rest = ap (λ b. eq_by_cmp R q y || b) rest ∙ or_swap (eq_by_cmp R q y) (eq_by_cmp R q k) (list_any (eq_by_cmp R q) ys)

  pub rises-in_order : (ks : List K) → IsStrictlySortedBy R (in_order R ks)
  unfolding in_order
  rises-in_order [] = unfold IsStrictlySortedBy in tt
  rises-in_order (k ∷ ks) = rises_key k (in_order R ks) (rises-in_order ks)

  pub contains-in_order : (ks : List K) (q : K) → list_any (eq_by_cmp R q) (in_order R ks) ≡ list_any (eq_by_cmp R q) ks
  unfolding in_order
  contains-in_order [] q = refl
  contains-in_order (k ∷ ks) q = contains_key q k (in_order R ks) ∙ ap (λ b. eq_by_cmp R q k || b) (contains-in_order ks q)
