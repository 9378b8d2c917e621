-- What a list with one more element somewhere has.
use Rattle.std.proofs.Common.{◌≡◌, ◌+◌, Bool, ◌||◌, true, false, List, [], ◌∷◌, ◌++◌, length, map, refl, sym, ap, ◌∙◌, arith, append_assoc, append-nil}
use Rattle.std.specs.List.{list_any, flat_map}
use Rattle.std.proofs.lemmas.List.Folds.{list_any-append}
use Rattle.std.proofs.lemmas.List.{map-append, length-append}
use Rattle.std.proofs.lemmas.Grind.{flat_map-append}
use Rattle.nonce_window.specs.Added.{IsAdded}

or_middle : (a b c : Bool) → (a || (b || c)) ≡ (b || (a || c))
or_middle true true c = refl
or_middle true false c = refl
or_middle false b c = refl

module _ {X : Type 0} where
  pub added-length : (before after : List X) (x : X) → IsAdded before x after → length after ≡ length before + 1
  added-length before after x added =
      let old = ap length added.was ∙ length-append added.front added.back in
      let new = ap length added.is ∙ length-append added.front (x ∷ added.back) in
      omega (arith, old, new)

  pub added-any : (p : X → Bool) (before after : List X) (x : X) → IsAdded before x after → list_any p after ≡ (p x || list_any p before)
  added-any p before after x added =
      ap (list_any p) added.is ∙ list_any-append p added.front (x ∷ added.back)
      ∙ or_middle (list_any p added.front) (p x) (list_any p added.back)
      ∙ ap (λ b. p x || b) (sym (list_any-append p added.front added.back) ∙ ap (list_any p) (sym added.was))

  pub added-map : {Y : Type 0} (f : X → Y) (before after : List X) (x : X) → IsAdded before x after → IsAdded (map f before) (f x) (map f after)
  added-map f before after x added = record {
    front = map f added.front;
    back = map f added.back;
    was = ap (map f) added.was ∙ map-append f added.front added.back;
    is = ap (map f) added.is ∙ map-append f added.front (x ∷ added.back);
  }

  -- the same between more
  pub added-between : (front before after back : List X) (x : X) → IsAdded before x after → IsAdded (front ++ (before ++ back)) x (front ++ (after ++ back))
  added-between front before after back x added = record {
    front = front ++ added.front;
    back = added.back ++ back;
    was = ap (λ l. front ++ (l ++ back)) added.was ∙ grouped added.back;
    is = ap (λ l. front ++ (l ++ back)) added.is ∙ grouped (x ∷ added.back);
  }
    where
      grouped : (rest : List X) → front ++ ((added.front ++ rest) ++ back) ≡ (front ++ added.front) ++ (rest ++ back)
      grouped rest = ap (λ l. front ++ l) (append_assoc added.front rest back) ∙ sym (append_assoc front added.front (rest ++ back))

  pub added-last : (xs : List X) (x : X) → IsAdded xs x (xs ++ x ∷ [])
  added-last xs x = record { front = xs; back = []; was = sym (append-nil xs); is = refl }

  -- among what is made of each element of a list, where one element changes
  pub added-changed : {E : Type 0} (f : E → List X) (es fs front back : List E) (e e' : E) (x : X) → es ≡ front ++ e ∷ back → fs ≡ front ++ e' ∷ back → IsAdded (f e) x (f e') → IsAdded (flat_map f es) x (flat_map f fs)
  added-changed f es fs front back e e' x was is added =
      let old : flat_map f es ≡ flat_map f front ++ (f e ++ flat_map f back) = ap (flat_map f) was ∙ flat_map-append f front (e ∷ back) in
      let new : flat_map f fs ≡ flat_map f front ++ (f e' ++ flat_map f back) = ap (flat_map f) is ∙ flat_map-append f front (e' ∷ back) in
      let all = added-between (flat_map f front) (f e) (f e') (flat_map f back) x added in
      record { front = all.front; back = all.back; was = old ∙ all.was; is = new ∙ all.is }

  -- the same, where one element comes in
  pub added-new : {E : Type 0} (f : E → List X) (es fs front back : List E) (e : E) (x : X) → es ≡ front ++ back → fs ≡ front ++ e ∷ back → IsAdded [] x (f e) → IsAdded (flat_map f es) x (flat_map f fs)
  added-new f es fs front back e x was is added =
      let old : flat_map f es ≡ flat_map f front ++ ([] ++ flat_map f back) = ap (flat_map f) was ∙ flat_map-append f front back in
      let new : flat_map f fs ≡ flat_map f front ++ (f e ++ flat_map f back) = ap (flat_map f) is ∙ flat_map-append f front (e ∷ back) in
      let all = added-between (flat_map f front) [] (f e) (flat_map f back) x added in
      record { front = all.front; back = all.back; was = old ∙ all.was; is = new ∙ all.is }
