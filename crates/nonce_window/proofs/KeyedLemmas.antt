-- What is made of each entry of a map, and what a look-up tells of it.
use Rattle.std.proofs.Common.{◌≡◌, ℕ, Bool, true, false, true≢false, ◌||◌, List, [], ◌∷◌, ◌++◌, Option, Some, None, is_some, Ok, Err, refl, sym, ap, ◌∙◌, arith, ⊎_elim, is_eq}
use Rattle.std.specs.List.{list_any, flat_map, sum_by, IsDistinct, AllByRecursion}
use Rattle.std.specs.Result.{OnErr}
use Rattle.std.specs.declared.result.Result.{Result}
use Rattle.std.specs.Map.{keys_of, lookup, set_value, IsKeyTest}
use Rattle.std.specs.BTreeMap.{insert_entry, is_at}
use Rattle.std.specs.Ordering.{match_ordering}
use Rattle.std.specs.declared.cmp.Ordering.{Ordering}
use Rattle.std.specs.declared.cmp.Ordering.TheVariants.{Less, Equal, Greater}
use Rattle.std.proofs.lemmas.Bool.{cases_Bool, cond-true, cond-false}
use Rattle.std.proofs.lemmas.List.Folds.{list_any-append}
use Rattle.std.proofs.lemmas.Map.Keys.{IsDistinct-head, IsDistinct-tail}
use Rattle.std.proofs.lemmas.Map.Entries.{lookup_head, lookup_tail}
use Rattle.std.proofs.lemmas.List.Sums.{sum_by-cons}
use Rattle.std.proofs.lemmas.Option.{none-some}

-- what holds of the value that was found, or `none`
abbrev pub found_or : {X B : Type 0} → B → (X → B) → Option X → B
found_or none g None = none
found_or none g (Some v) = g v

or_none : (b : Bool) → (b || false) ≡ b
or_none true = refl
or_none false = refl

module _ {K X : Type 0} (eq : K → K → Bool) (test : K → Bool) (key : IsKeyTest eq test) (P : K × X → Type 0) where
  module _ {A : Type 0} (f : K × X → List A) (q : A → Bool) (g : X → Bool) (out : (e : K × X) → P e → test e.0 ≡ false → list_any q (f e) ≡ false) (in_ : (e : K × X) → P e → test e.0 ≡ true → list_any q (f e) ≡ g e.1) where
    past : (k : K) (es : List (K × X)) → test k ≡ true → AllByRecursion P es → AllByRecursion (λ y. eq k y ≡ false) (keys_of es) → list_any q (flat_map f es) ≡ false
    past k [] is all apart = refl
    past k (e ∷ es) is all apart =
        list_any-append q (f e) (flat_map f es)
        ∙ (λ i. out e all.0 (key k e.0 is ∙ apart.0) i || past k es is all.1 apart.1 i)

    -- some element passes where the entry that is looked up has one
    pub any_found : (es : List (K × X)) → AllByRecursion P es → IsDistinct eq (keys_of es) → list_any q (flat_map f es) ≡ found_or false g (lookup test es)
    any_found [] all distinct = refl
    any_found (e ∷ es) all distinct =
        list_any-append q (f e) (flat_map f es)
        ∙ ⊎_elim
        (λ here. (λ i. in_ e all.0 here i || past e.0 es here all.1 (IsDistinct-head eq e.0 (keys_of es) distinct) i) ∙ or_none (g e.1) ∙ sym (ap (found_or false g) (lookup_head test e es here)))
        (λ there. (λ i. out e all.0 there i || any_found es all.1 (IsDistinct-tail eq e.0 (keys_of es) distinct) i) ∙ sym (ap (found_or false g) (lookup_tail test e es there)))
        (cases_Bool (test e.0))

module _ {K X : Type 0} (eq : K → K → Bool) (test : K → Bool) (key : IsKeyTest eq test) (h : K × X → ℕ) (g : X → ℕ) (out : (e : K × X) → test e.0 ≡ false → h e ≡ 0) (in_ : (e : K × X) → test e.0 ≡ true → h e ≡ g e.1) where
  none_past : (k : K) (es : List (K × X)) → test k ≡ true → AllByRecursion (λ y. eq k y ≡ false) (keys_of es) → sum_by h es ≡ 0
  none_past k [] is apart = refl
  none_past k (e ∷ es) is apart =
      omega (arith, sum_by-cons h e es, out e (key k e.0 is ∙ apart.0), none_past k es is apart.1)

  -- a sum to which one entry adds is what the entry that is looked up adds
  pub sum_found : (es : List (K × X)) → IsDistinct eq (keys_of es) → sum_by h es ≡ found_or 0 g (lookup test es)
  sum_found [] distinct = refl
  sum_found (e ∷ es) distinct =
      ⊎_elim
      (λ here. omega (arith, sum_by-cons h e es, in_ e here, none_past e.0 es here (IsDistinct-head eq e.0 (keys_of es) distinct), ap (found_or 0 g) (lookup_head test e es here)))
      (λ there. omega (arith, sum_by-cons h e es, out e there, sum_found es (IsDistinct-tail eq e.0 (keys_of es) distinct), ap (found_or 0 g) (lookup_tail test e es there)))
      (cases_Bool (test e.0))

-- an entry's value was changed
pub record IsChanged {K X : Type 0} (test : K → Bool) (before : List (K × X)) (v w : X) (after : List (K × X)) : Type 0 where
  pub front : List (K × X)
  pub back : List (K × X)
  pub at : K
  pub passes : test at ≡ true
  pub was : before ≡ front ++ (at, v) ∷ back
  pub is : after ≡ front ++ (at, w) ∷ back

some_inner : {X : Type 0} (v w : X) → Some v ≡ Some w → v ≡ w
some_inner v w same = ap (found_or v (λ x. x)) same

pub changed : {K X : Type 0} (test : K → Bool) (es : List (K × X)) (v w : X) → lookup test es ≡ Some v → IsChanged test es v w (set_value test es w)
changed test [] v w found = absurd (none-some v found)
changed test (e ∷ es) v w found =
    ⊎_elim
    (λ here. record {
      front = [];
      back = es;
      at = e.0;
      passes = here;
      was = ap (λ (x : _). (e.0, x) ∷ es) (some_inner e.1 v (sym (lookup_head test e es here) ∙ found));
      is = cond-true (test e.0) ((e.0, w) ∷ es) (e ∷ set_value test es w) here;
    })
    (λ there.
    let rest = changed test es v w (sym (lookup_tail test e es there) ∙ found) in
    record {
      front = e ∷ rest.front;
      back = rest.back;
      at = rest.at;
      passes = rest.passes;
      was = ap (λ l. e ∷ l) rest.was;
      is = cond-false (test e.0) ((e.0, w) ∷ es) (e ∷ set_value test es w) there ∙ ap (λ l. e ∷ l) rest.is;
    })
    (cases_Bool (test e.0))

-- an entry came in
pub record IsIn {E : Type 0} (before : List E) (e : E) (after : List E) : Type 0 where
  pub front : List E
  pub back : List E
  pub was : before ≡ front ++ back
  pub is : after ≡ front ++ e ∷ back

pub inserted : {K X : Type 0} (cmp : K → K → Ordering) (es : List (K × X)) (k : K) (v : X) → lookup (is_at (cmp k)) es ≡ None → IsIn es (k, v) (insert_entry cmp es k v)
inserted cmp [] k v none = record { front = []; back = []; was = refl; is = refl }
inserted cmp (e ∷ es) k v none = by (cmp k e.0) refl (λ is. inserted cmp es k v (sym (lookup_tail (is_at (cmp k)) e es (ap is_eq is)) ∙ none))
  where
    by : (r : Ordering) → cmp k e.0 ≡ r → (cmp k e.0 ≡ Greater → IsIn es (k, v) (insert_entry cmp es k v)) → IsIn (e ∷ es) (k, v) (insert_entry cmp (e ∷ es) k v)
    by Less is further = record {
      front = [];
      back = e ∷ es;
      was = refl;
      is = ap (λ r. match_ordering r ((k, v) ∷ e ∷ es) ((e.0, v) ∷ es) (e ∷ insert_entry cmp es k v)) is;
    }
    by Equal is further = absurd (none-some e.1 (sym none ∙ lookup_head (is_at (cmp k)) e es (ap is_eq is)))
    by Greater is further =
        let rest = further is in
        record {
          front = e ∷ rest.front;
          back = rest.back;
          was = ap (λ l. e ∷ l) rest.was;
          is = ap (λ r. match_ordering r ((k, v) ∷ e ∷ es) ((e.0, v) ∷ es) (e ∷ insert_entry cmp es k v)) is ∙ ap (λ l. e ∷ l) rest.is;
        }

pub none_from : {X : Type 0} (o : Option X) → is_some o ≡ false → o ≡ None
none_from None is = refl
none_from (Some v) is = absurd (true≢false is)

-- what holds anyway holds on `Err`
pub on_err : {A E P : Type 0} (r : Result A E) → P → OnErr r P
on_err (Ok v) p = tt
on_err (Err e) p = p
