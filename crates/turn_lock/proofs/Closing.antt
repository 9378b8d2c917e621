-- What is known once the table is closed with the seat of a whole pass.
use Rattle.std.proofs.Common.{◌≡◌, ◌≢◌, ℕ, zero, suc, ◌+◌, ◌≤◌, List, [], ◌∷◌, ◌++◌, length, refl, sym, ap, ◌∙◌, ⊎_elim, arith, length-append}
use Rattle.std.proofs.lemmas.List.{append-nil}
use mathlib.Core.Option.{Option, some, none, some-injective, some-ne-none}
use mathlib.Core.Logic.{dite}
use native.Mathlib.Decide.{dec_le}
use lib.ListN.{get_elem?}
use Rattle.atomic_table.specs.Table.{State, Final, Seen}
use Rattle.turn_lock.specs.declared.view.Phase.{Phase}
use Rattle.turn_lock.specs.declared.view.Phase.TheVariants.{Idle, Waiting, Called}
use Rattle.turn_lock.specs.declared.view.OwnPlaces.{OwnPlaces}
use Rattle.turn_lock.specs.declared.view.View.{View}
use Rattle.turn_lock.proofs.Totals.{total_at, total_none, below_in}
use Rattle.turn_lock.specs.declared.kept.Kept.{Ghosts}
use Rattle.turn_lock.specs.Counts.{total, once_below}
use Rattle.turn_lock.specs.Trail.{StartsWith}
use Rattle.turn_lock.specs.Owned.{in_places}
use Rattle.turn_lock.specs.Views.{ticketed, called, size}
use Rattle.turn_lock.specs.Rule.{Ready, Turns}

module _ {V : Type 0} (f : V → ℕ) where
  -- two members count at most as much as all
  pub total_two : (vs : List V) (i j : ℕ) (v u : V) → get_elem? vs i ≡ some v → get_elem? vs j ≡ some u → j ≢ i → f v + f u ≤ total f vs
  total_two [] i j v u at there ne = absurd (some-ne-none v (sym at))
  total_two (x ∷ xs) zero zero v u at there ne = absurd (ne refl)
  total_two (x ∷ xs) zero (suc j) v u at there ne = let e : f x ≡ f v = ap f (some-injective x v at) in let r = total_at f xs j u there in omega arith
  total_two (x ∷ xs) (suc i) zero v u at there ne = let e : f x ≡ f u = ap f (some-injective x u there) in let r = total_at f xs i v at in omega arith
  total_two (x ∷ xs) (suc i) (suc j) v u at there ne = let r = total_two xs i j v u at there (λ e. ne (ap suc e)) in omega arith

  -- where one member alone counts
  pub total_only : (vs : List V) (i : ℕ) (v : V) → get_elem? vs i ≡ some v → ((j : ℕ) (u : V) → j ≢ i → get_elem? vs j ≡ some u → f u ≡ 0) → total f vs ≡ f v
  total_only [] i v at h = absurd (some-ne-none v (sym at))
  total_only (x ∷ xs) zero v at h = let e : f x ≡ f v = ap f (some-injective x v at) in let r = total_none f xs (λ j u b. h (suc j) u (λ k. omega arith) b) in omega arith
  total_only (x ∷ xs) (suc i) v at h = let a = h 0 x (λ k. omega arith) refl in let r = total_only xs i v at (λ j u ne b. h (suc j) u (λ k. ne (omega arith)) b) in omega arith

called_ticketed : (ph : Phase) → called ph ≤ ticketed ph
called_ticketed Idle = omega arith
called_ticketed (Waiting t) = omega arith
called_ticketed (Called t) = omega arith

places_of_none : (p : ℕ) (own : List OwnPlaces) → length own ≡ 0 → in_places p own ≡ 0
places_of_none p [] e = refl
places_of_none p (h ∷ hs) e = absurd (omega arith)

nothing_left : {A : Type 0} (all front : List A) (h : StartsWith all front) → length all ≤ length front → all ≡ front
nothing_left all front h le =
    let e : length all ≡ length front + length h.0 = ap length h.1 ∙ length-append front h.0 in
    h.1 ∙ ap (λ r. front ++ r) (is_nil h.0 (omega arith)) ∙ append-nil front
  where
    is_nil : {A : Type 0} (r : List A) → length r ≡ 0 → r ≡ []
    is_nil [] e = refl
    is_nil (x ∷ xs) e = absurd (omega arith)

module _ {J A K O : Type 0} (means : Ghosts K J A O) (base : K) (first : ℕ) where
  abbrev Rule : State K (View J A K) → Type 0
  Rule = Turns means base first

  -- what the one who closes learns
  pub record Closed (v : View J A K) (y : K) : Type 0 where
    pub origin_is : means.origin y ≡ means.origin base
    pub limit_is : means.limit y ≡ means.limit base
    pub trail_is : means.trail y ≡ v.seen
    pub places : (p : ℕ) → in_places p v.own ≡ once_below p (length (means.trail y))

  pub closes : (id : ℕ) (v : View J A K) (ws : List ℕ) (ys : List K) (y : K) → Final (Seen Rule id v) ws ys → ticketed v.phase ≡ 0 → size v ≡ first + 1 → get_elem? ys 0 ≡ some y → Closed v y
  closes id v ws ys y final idle whole there =
      let s = final.0 in
      let r = final.1.0 in
      let at = final.1.1 in
      let f = r.each id v at in
      let sized = r.sized in
      let empty : (j : ℕ) (u : View J A K) → j ≢ id → get_elem? s.views j ≡ some u → size u ≡ 0 = λ j u ne b. let e = total_two size s.views id j v u at b ne in omega arith in
      let none_owned : (j : ℕ) (u : View J A K) → j ≢ id → get_elem? s.views j ≡ some u → length u.own ≡ 0 = λ j u ne b. let e = empty j u ne b in let k : size u ≡ length u.own + u.spare = refl in omega arith in
      let mine = called_ticketed v.phase in
      let none_called : total (λ (x : View J A K). called x.phase) s.views ≡ 0 =
      total_only (λ (x : View J A K). called x.phase) s.views id v at (λ j u ne b. let a = none_owned j u ne b in let t = (r.each j u b).answers in let c = called_ticketed u.phase in omega arith) ∙ (let z : called v.phase ≡ 0 = omega arith in z) in
      let place : (p : ℕ) → in_places p v.own ≡ once_below p (length r.trail) = λ p. sym (total_only (λ (x : View J A K). in_places p x.own) s.views id v at (λ j u ne b. places_of_none p u.own (none_owned j u ne b))) ∙ r.places p in
      let long : length r.trail ≤ length v.seen =
      dite (dec_le (length r.trail) (length v.seen)) (λ le. le)
      (λ gt. let a = f.inside (length v.seen) (omega arith) in let b = place (length v.seen) in let c = below_in (length v.seen) (length r.trail) (omega arith) in absurd (omega arith)) in
      let seen_all : r.trail ≡ v.seen = nothing_left r.trail v.seen f.seen_is long in
      ⊎_elim
      (λ (h : (total (λ (x : View J A K). called x.phase) s.views ≡ 0) × ((z : K) × (s.homes ≡ some z ∷ []) × Ready means base r.served r.trail z)).
      let z = h.1.0 in
      let ready = h.1.2 in
      let same : z ≡ y = some-injective z y (sym (final.4 0 z (ap (λ (hs : List (Option K)). get_elem? hs 0) h.1.1)) ∙ there) in
      record {
        origin_is = ap means.origin (sym same) ∙ ready.origin_is;
        limit_is = ap means.limit (sym same) ∙ ready.limit_is;
        trail_is = ap means.trail (sym same) ∙ ready.trail_is ∙ seen_all;
        places = λ p. place p ∙ ap (λ (l : List (J × A)). once_below p (length l)) (sym ready.trail_is ∙ ap means.trail same);
      })
      (λ (h : (total (λ (x : View J A K). called x.phase) s.views ≡ 1) × (s.homes ≡ none ∷ [])). absurd (omega arith))
      r.slot
