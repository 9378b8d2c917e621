-- The normal form of a list of parameters (RFC 5849, section 3.4.1.3.2).
use Rattle.std.specs.Prelude.{◌≡◌, ℕ, Bool, ◌&&◌, List, [], ◌∷◌, ◌++◌, map, nat_eq, count_by}
use Rattle.std.specs.Cmp.Lexicographic.{pointwise, slice_cmp}
use Rattle.std.specs.List.{join_by}
use Rattle.std.specs.List.Sorted.{IsSorted}
use Rattle.std.specs.Ordering.{nat_cmp, ordering_then}
use Rattle.std.specs.declared.cmp.Ordering.{Ordering}
use Rattle.lti_outside.specs.declared.pairs.Pair.{Pair}
use Rattle.oauth_text.specs.Escape.{escape}

-- a pair with its name and its value escaped
abbrev pub escaped_pair : Pair → Pair
escaped_pair p = record { name = escape p.name; value = escape p.value }

-- the name, `=` and the value
abbrev pub pair_text : Pair → List ℕ
pair_text p = p.name ++ 61 ∷ p.value

-- the pairs' texts, with `&` between them
abbrev pub joined : List Pair → List ℕ
joined ps = join_by pair_text (38 ∷ []) ps

-- by name and then by value, in byte order
abbrev pub pair_cmp : Pair → Pair → Ordering
pair_cmp a b = ordering_then (slice_cmp nat_cmp a.name b.name) (slice_cmp nat_cmp a.value b.value)

-- both the name and the value are the same bytes
abbrev pub same_pair : Pair → Pair → Bool
same_pair a b = pointwise nat_eq a.name b.name && pointwise nat_eq a.value b.value

-- how often a list holds a pair
abbrev pub copies : Pair → List Pair → ℕ
copies p ps = count_by (same_pair p) ps

-- the list holds each escaped pair exactly as often as the pairs do, and nowhere descends
pub record IsOrderOf (pairs order : List Pair) : Type 0 where
  pub same : (p : Pair) → copies p order ≡ copies p (map escaped_pair pairs)
  pub rises : IsSorted pair_cmp order

-- the text is such a list, joined
pub record IsNormal (pairs : List Pair) (text : List ℕ) : Type 0 where
  pub order : List Pair
  pub order_of : IsOrderOf pairs order
  pub is : text ≡ joined order
