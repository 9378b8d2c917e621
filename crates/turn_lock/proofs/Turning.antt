-- One turn, put together from its steps.
use Rattle.std.proofs.Common.{◌≡◌, ℕ, ◌+◌, ◌%◌, ◌^◌, ◌≤◌, ◌⊎◌, List, [], ◌∷◌, ◌++◌, length, get_or, nat_lt, Bool, true, false, refl, sym, ap, ◌∙◌, subst, inl, inr, arith, length-append, MatchBool, Some}
use Rattle.std.proofs.Math.Nat.{mod-add-mod}
use Rattle.std.proofs.lemmas.Bool.{lt-ltb, le-ltb}
use Rattle.atomic_table.specs.Table.{Me}
use Rattle.turn_lock.specs.declared.kept.Kept.{Ghosts}
use Rattle.turn_lock.specs.declared.view.Phase.TheVariants.{Waiting, Called}
use Rattle.turn_lock.specs.declared.view.OwnPlaces.{OwnPlaces}
use Rattle.turn_lock.specs.declared.view.View.{View}
use Rattle.turn_lock.specs.Trail.{StartsWith, Adds}
use Rattle.turn_lock.specs.Owned.{put_place}
use Rattle.turn_lock.specs.Views.{own_after, in_phase, sees, done}
use Rattle.turn_lock.specs.Steps.{Holds, Comes, Extends, IsAnswered}
use Rattle.turn_lock.specs.Passes.{Answers}

module _ {J A K O : Type 0} (means : Ghosts K J A O) (base : K) where
  abbrev V : Type 0
  V = View J A K

  same_value : {W : Type 0} (m : Me K W) (y z : K) → m.1 ≡ (0, y) ∷ [] → m.1 ≡ (0, z) ∷ [] → y ≡ z
  same_value m y z e f = ap (λ (l : List (ℕ × K)). (get_or l 0 (0, y)).1) (sym e ∙ f)

  grows : (b : Bool) (y z : K) (job : J) (answer : A) → Adds b (means.limit y) job answer (means.trail y) (means.trail z)
      → (means.trail z ≡ means.trail y) ⊎ ((x : J × A) × (means.trail z ≡ means.trail y ++ x ∷ []))
  grows true y z job answer h = inl h.0
  grows false y z job answer h = inr ((job, answer), h.0)

  -- the view while the seat has the value
  abbrev in_turn : ℕ → K → V → V
  in_turn t y v = in_phase (Called t) (sees (means.trail y) v)

  -- what the seat has once its turn has come
  arrives : (t : ℕ) (v : V) (m n : Me K V) → m ≡ (in_phase (Waiting t) v, []) → Comes means m n
      → (y : K) × (n ≡ (in_turn t y v, (0, y) ∷ [])) × StartsWith (means.trail y) v.seen × (means.turned y ≡ t % 2 ^ 64) × ((b : K) → v.base ≡ Some b → (means.origin y ≡ means.origin b) × (means.limit y ≡ means.limit b))
  arrives t v m n e c = subst (λ (x : Me K V). Comes means x n) e c

  -- what the seat has once the value has answered may be given back
  pub answers_here : (t : ℕ) (v : V) (job : J) (answer : A) (m n o : Me K V) → m ≡ (in_phase (Waiting t) v, []) → Comes means m n
      → Holds n (λ y. Holds o (λ z. Extends means y job answer z)) → o.0 ≡ n.0 → 1 ≤ length v.own → v.base ≡ Some base → Holds o (λ z. IsAnswered means base o.0 z)
  answers_here t v job answer m n o e c h same own of =
      let a = arrives t v m n e c in
      let y = a.0 in
      let is : y ≡ h.0 = same_value n y h.0 (ap (λ x. x.1) a.1) h.1 in
      let z = h.2.0 in
      let x : Extends means y job answer z = subst (λ (k : K). Extends means k job answer z) (sym is) h.2.2 in
      let view : o.0 ≡ in_turn t y v = same ∙ ap (λ x. x.0) a.1 in
      let b = a.4 base of in (
        z,
        h.2.1,
        subst (λ (w : V). IsAnswered means base w z) (sym view) record {
          is_called = refl;
          turns_is = x.turns_is ∙ ap (λ (k : ℕ). (k + 1) % 2 ^ 64) a.3 ∙ mod-add-mod t (2 ^ 64) 1;
          origin_is = x.origin_is ∙ b.0;
          limit_is = x.limit_is ∙ b.1;
          grows = grows (means.refuses answer) y z job answer x.trail_is;
          answers = own;
        },
      )

  -- the place of the answer
  placed : (b : Bool) (y z : K) (own : List OwnPlaces) (job : J) (answer : A) → Adds b (means.limit y) job answer (means.trail y) (means.trail z)
      → (let own' = own_after (nat_lt (length (means.trail y)) (length (means.trail z))) (length (means.trail y)) own in MatchBool b (own' ≡ own) (own' ≡ put_place (length (means.trail y)) own))
  placed true y z own job answer h =
      let l : length (means.trail z) ≡ length (means.trail y) = ap length h.0 in
      ap (λ (k : Bool). own_after k (length (means.trail y)) own) (le-ltb (length (means.trail y)) (length (means.trail z)) (omega arith))
  placed false y z own job answer h =
      let l : length (means.trail z) ≡ length (means.trail y) + 1 = ap length h.0 ∙ length-append (means.trail y) ((job, answer) ∷ []) in
      ap (λ (k : Bool). own_after k (length (means.trail y)) own) (lt-ltb (length (means.trail y)) (length (means.trail z)) (omega arith))

  -- what the pass knows once its turn is over
  pub record Told (job : J) (answer : A) (v w : V) : Type 0 where
    pub answers_are : Answers (means.refuses answer) (means.limit base) job answer v.seen v.own w.seen w.own
    pub law_is : means.law (means.origin base) w.seen

  pub tells : (t : ℕ) (v : V) (job : J) (answer : A) (m n o p : Me K V) → m ≡ (in_phase (Waiting t) v, []) → Comes means m n
      → Holds n (λ y. Holds o (λ z. Extends means y job answer z)) → o.0 ≡ n.0 → v.base ≡ Some base → Holds o (λ z. p ≡ (done (means.trail z) o.0, [])) → Told job answer v p.0
  tells t v job answer m n o p e c h same of d =
      let a = arrives t v m n e c in
      let y = a.0 in
      let is : y ≡ h.0 = same_value n y h.0 (ap (λ x. x.1) a.1) h.1 in
      let z = h.2.0 in
      let is-z : d.0 ≡ z = same_value o d.0 z d.1 h.2.1 in
      let x : Extends means y job answer z = subst (λ (k : K). Extends means k job answer z) (sym is) h.2.2 in
      let view : o.0 ≡ in_turn t y v = same ∙ ap (λ x. x.0) a.1 in
      let after : p.0 ≡ done (means.trail z) (in_turn t y v) = ap (λ x. x.0) d.2 ∙ (λ i. done (means.trail (is-z i)) (view i)) in
      let b = a.4 base of in
      subst (λ (w : V). Told job answer v w) (sym after) record {
        answers_are = record {
          front = means.trail y;
          goes_on = a.2;
          adds = subst (λ (k : ℕ). Adds (means.refuses answer) k job answer (means.trail y) (means.trail z)) b.1 x.trail_is;
          places = placed (means.refuses answer) y z v.own job answer x.trail_is;
        };
        law_is = subst (λ (q : O). means.law q (means.trail z)) (x.origin_is ∙ b.0) x.law_is;
      }
