-- Putting the members of a list one by one, where none is the same as another; and folds over parts of a list.
use Rattle.std.proofs.Common.{◌≡◌, Bool, true, false, cond, ◌||◌, List, [], ◌∷◌, ◌++◌, map, Option, Some, None, refl, sym, ap, subst, ◌∙◌, append_assoc, append-nil}
use Rattle.std.specs.Cmp.{IsEquivalence}
use Rattle.std.specs.List.{fold, flat_map, list_any, AllByRecursion, IsDistinct}
use Rattle.std.proofs.lemmas.Bool.{cond_both, or_from}
use Rattle.std.proofs.lemmas.List.Folds.{fold-map, fold_stays}
use Rattle.std.proofs.lemmas.List.Sums.{fold-append}
use Rattle.lti_machine.specs.declared.entry.Entry.{Entry}
use Rattle.lti_machine.specs.Placements.{put_by, put_some, latest}

module _ {A : Type 0} {same : A → A → Bool} (laws : IsEquivalence same) where
  differs : (x y : A) → same x y ≡ false → same y x ≡ false
  differs x y h = laws.symm y x ∙ h

  differs_put : (x y : A) (ys : List A) → same y x ≡ false → AllByRecursion (λ z. same y z ≡ false) ys → AllByRecursion (λ z. same y z ≡ false) (put_by same ys x)
  differs_put x y [] h all = (h, tt)
  differs_put x y (z ∷ zs) h all =
      cond_both (same x z) (x ∷ zs) (z ∷ put_by same zs x) (AllByRecursion (λ z. same y z ≡ false))
      (λ _. (h, all.1))
      (λ _. (all.0, differs_put x y zs h all.1))

  differs_alike : (x y : A) (zs : List A) → same x y ≡ true → AllByRecursion (λ z. same y z ≡ false) zs → AllByRecursion (λ z. same x z ≡ false) zs
  differs_alike x y [] alike all = tt
  differs_alike x y (z ∷ zs) alike all = (laws.congr x y z alike ∙ all.0, differs_alike x y zs alike all.1)

  pub distinct_put : (xs : List A) (x : A) → IsDistinct same xs → IsDistinct same (put_by same xs x)
  unfolding IsDistinct
  distinct_put [] x distinct = (tt, tt)
  distinct_put (y ∷ ys) x distinct =
      cond_both (same x y) (x ∷ ys) (y ∷ put_by same ys x) (IsDistinct same)
      (λ alike. (differs_alike x y ys alike distinct.0, distinct.1))
      (λ other. (differs_put x y ys (differs x y other) distinct.0, distinct_put ys x distinct.1))

  differs_middle : (x y : A) (xs ys : List A) → AllByRecursion (λ z. same x z ≡ false) (xs ++ y ∷ ys) → same x y ≡ false
  differs_middle x y [] ys all = all.0
  differs_middle x y (z ∷ zs) ys all = differs_middle x y zs ys all.1

  -- a member of a list without repeats isn't among those before it
  pub new_behind : (xs : List A) (y : A) (ys : List A) → IsDistinct same (xs ++ y ∷ ys) → list_any (same y) xs ≡ false
  unfolding IsDistinct
  new_behind [] y ys distinct = refl
  new_behind (x ∷ xs) y ys distinct =
      or_from (same y x) (list_any (same y) xs) (differs x y (differs_middle x y xs ys distinct.0)) (new_behind xs y ys distinct.1)

  put_new : (xs : List A) (y : A) → list_any (same y) xs ≡ false → put_by same xs y ≡ xs ++ y ∷ []
  put_new [] y new = refl
  put_new (x ∷ xs) y new = by (same y x) (list_any (same y) xs) new (put_new xs y)
    where
      by : (b c : Bool) → (b || c) ≡ false → (c ≡ false → put_by same xs y ≡ xs ++ y ∷ []) → cond b (y ∷ xs) (x ∷ put_by same xs y) ≡ x ∷ (xs ++ y ∷ [])
      by true c new rest = absurd (subst (λ b. cond b (Unit {0}) ⊥) new tt)
      by false c new rest = ap (λ zs. x ∷ zs) (rest new)

  -- put one by one, they stand in their order
  pub fold_put : (xs ys : List A) → IsDistinct same (xs ++ ys) → fold (put_by same) xs ys ≡ xs ++ ys
  fold_put xs [] distinct = sym (append-nil xs)
  fold_put xs (y ∷ ys) distinct =
      let regroup = append_assoc xs (y ∷ []) ys in
      ap (λ zs. fold (put_by same) zs ys) (put_new xs y (new_behind xs y ys distinct))
      ∙ fold_put (xs ++ y ∷ []) ys (subst (IsDistinct same) (sym regroup) distinct)
      ∙ regroup

  distinct_some : (xs : List A) (told : Option A) → IsDistinct same xs → IsDistinct same (put_some same xs told)
  distinct_some xs None distinct = distinct
  distinct_some xs (Some x) distinct = distinct_put xs x distinct

  module _ (told : Entry → Option A) where
    abbrev step : List A → Entry → List A
    step xs e = put_some same xs (told e)

    distinct_fold : (xs : List A) (es : List Entry) → IsDistinct same xs → IsDistinct same (fold step xs es)
    distinct_fold xs [] distinct = distinct
    distinct_fold xs (e ∷ es) distinct = distinct_fold (step xs e) es (distinct_some xs (told e) distinct)

    distinct_latest : (es : List Entry) → IsDistinct same (latest same told es)
    unfolding IsDistinct
    distinct_latest es = distinct_fold [] es tt

    told_again : (entry_of : A → Entry) → ((x : A) → told (entry_of x) ≡ Some x) → (ys xs : List A) → fold step ys (map entry_of xs) ≡ fold (put_by same) ys xs
    told_again entry_of is ys [] = refl
    told_again entry_of is ys (x ∷ xs) =
        ap (λ o. fold step (put_some same ys o) (map entry_of xs)) (is x) ∙ told_again entry_of is (put_by same ys x) xs

    -- the entries that tell the latest have those as their latest
    pub latest-told : (entry_of : A → Entry) → ((x : A) → told (entry_of x) ≡ Some x) → (es : List Entry) → latest same told (map entry_of (latest same told es)) ≡ latest same told es
    latest-told entry_of is es =
        told_again entry_of is [] (latest same told es)
        ∙ fold_put [] (latest same told es) (distinct_latest es)

-- ---- folds

module _ {E S : Type 0} (step : S → E → S) where
  -- what changes by a step with each further member is a fold
  pub folds : (f : List E → S) → ((es : List E) (e : E) → f (es ++ e ∷ []) ≡ step (f es) e) → (xs ys : List E) → f (xs ++ ys) ≡ fold step (f xs) ys
  folds f push xs [] = ap f (append-nil xs)
  folds f push xs (y ∷ ys) =
      ap f (sym (append_assoc xs (y ∷ []) ys))
      ∙ folds f push (xs ++ y ∷ []) ys
      ∙ ap (λ s. fold step s ys) (push xs y)

  -- the members of a part change nothing
  pub map_stays : {X : Type 0} (f : X → E) (z : S) → ((x : X) → step z (f x) ≡ z) → (xs : List X) → fold step z (map f xs) ≡ z
  map_stays f z stays xs = fold-map step f z xs ∙ fold_stays (λ s x. step s (f x)) z stays xs

  pub flat_map_stays : {X : Type 0} (f : X → List E) (z : S) → ((x : X) → fold step z (f x) ≡ z) → (xs : List X) → fold step z (flat_map f xs) ≡ z
  flat_map_stays f z stays [] = refl
  flat_map_stays f z stays (x ∷ xs) = fold-append step z (f x) (flat_map f xs) ∙ ap (λ s. fold step s (flat_map f xs)) (stays x) ∙ flat_map_stays f z stays xs
