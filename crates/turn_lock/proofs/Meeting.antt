-- Splitting a pass and meeting two keep the rule.
use Rattle.std.proofs.Common.{Some, ◌≡◌, ℕ, zero, suc, ◌+◌, ◌<◌, ◌≤◌, ◌⊎◌, List, [], ◌∷◌, ◌++◌, length, set, get_or, drop, Bool, true, false, eqb, ltb, cond, refl, sym, ap, ◌∙◌, subst, ⊎_elim, inl, inr, arith, length-append}
use Rattle.std.proofs.lemmas.List.{append-nil}
use Rattle.std.proofs.lemmas.Bool.{ltb-true, ltb-false}
use mathlib.Core.Option.{some, none}
use mathlib.Core.Logic.{dite}
use native.Mathlib.Decide.{ℕ_discrete}
use lib.ListN.{get_elem?}
use lib.Seq.{set-get_or}
use Rattle.atomic_table.specs.Table.{State, Me, step, keeps, Allows, Splits, Joins}
use Rattle.atomic_table.proofs.Lists.{at_snoc, set_again, set_else}
use Rattle.turn_lock.specs.declared.view.Phase.{Phase}
use Rattle.turn_lock.specs.declared.view.Phase.TheVariants.{Idle, Waiting, Called}
use Rattle.turn_lock.specs.declared.view.OwnPlaces.{OwnPlaces}
use Rattle.turn_lock.specs.declared.view.View.{View}
use Rattle.turn_lock.proofs.Totals.{total_set, total_at, total_more, each_set, one_at_most}
use Rattle.turn_lock.proofs.Numbering.{spare_less}
use Rattle.turn_lock.proofs.Closing.{total_two}
use Rattle.turn_lock.specs.declared.kept.Kept.{Ghosts}
use Rattle.turn_lock.specs.Counts.{total, one_if, times, once_below}
use Rattle.turn_lock.specs.Trail.{StartsWith, longer, shorter}
use Rattle.turn_lock.specs.Owned.{in_places, in_numbers, in_spare}
use Rattle.turn_lock.specs.Views.{ticketed, has_ticket, called, giver, newcomer, both, spent, size}
use Rattle.turn_lock.specs.Rule.{Fits, Slot, Turns}
use Rattle.turn_lock.specs.Steps.{Compares}

total_append : {V : Type 0} (f : V → ℕ) (xs ys : List V) → total f (xs ++ ys) ≡ total f xs + total f ys
total_append f [] ys = omega arith
total_append f (x ∷ xs) ys = let r = total_append f xs ys in omega arith

spare_one : (n : ℕ) → 0 < n → 1 ≤ in_spare 1 n
spare_one zero h = absurd (omega arith)
spare_one (suc zero) h = omega arith
spare_one (suc (suc n)) h = let r = spare_one (suc n) (omega arith) in omega arith

spare_sum : (k a b : ℕ) → (a ≡ 0) ⊎ (b ≡ 0) → in_spare k (a + b) ≡ in_spare k a + in_spare k b
spare_sum k a b h =
    ⊎_elim
    (λ (e : a ≡ 0). let f : a + b ≡ b = omega arith in let z : in_spare k a ≡ 0 = ap (in_spare k) e in let s : in_spare k (a + b) ≡ in_spare k b = ap (in_spare k) f in omega arith)
    (λ (e : b ≡ 0). let f : a + b ≡ a = omega arith in let z : in_spare k b ≡ 0 = ap (in_spare k) e in let s : in_spare k (a + b) ≡ in_spare k a = ap (in_spare k) f in omega arith)
    h

no_ticket : (t : ℕ) (ph : Phase) → ticketed ph ≡ 0 → has_ticket t ph ≡ 0
no_ticket t Idle e = refl
no_ticket t (Waiting u) e = absurd (omega arith)
no_ticket t (Called u) e = absurd (omega arith)

not_called : (ph : Phase) → ticketed ph ≡ 0 → called ph ≡ 0
not_called Idle e = refl
not_called (Waiting u) e = refl
not_called (Called u) e = absurd (omega arith)

module _ {X : Type 0} where
  -- of two beginnings of one list the shorter begins the longer
  begins_longer : (all a b : List X) → StartsWith all a → StartsWith all b → length b ≤ length a → StartsWith a b
  begins_longer all a [] s t le = (a, refl)
  begins_longer all [] (y ∷ ys) s t le = absurd (omega arith)
  begins_longer [] (x ∷ xs) (y ∷ ys) s t le = absurd (cc)
  begins_longer (z ∷ zs) (x ∷ xs) (y ∷ ys) s t le =
      let head : x ≡ y = ap (λ (l : List X). get_or l 0 x) (sym s.1 ∙ t.1) in
      let tails = begins_longer zs xs ys (s.0, ap (drop 1) s.1) (t.0, ap (drop 1) t.1) (omega arith) in
      (tails.0, λ i. head i ∷ tails.1 i)

  one_of : (P : List X → Type 0) (xs ys : List X) → P xs → P ys → P (longer xs ys)
  one_of P xs ys p q = by_test (ltb (length xs) (length ys))
    where
      by_test : (b : Bool) → P (cond b ys xs)
      by_test true = q
      by_test false = p

  other_of : (P : List X → Type 0) (xs ys : List X) → P xs → P ys → P (shorter xs ys)
  other_of P xs ys p q = by_test (ltb (length xs) (length ys))
    where
      by_test : (b : Bool) → P (cond b xs ys)
      by_test true = p
      by_test false = q

  longest : (xs ys : List X) → (length xs ≤ length (longer xs ys)) × (length ys ≤ length (longer xs ys)) × (length (shorter xs ys) ≤ length (longer xs ys))
  longest xs ys = by_test (ltb (length xs) (length ys)) refl
    where
      by_test : (b : Bool) → ltb (length xs) (length ys) ≡ b → (length xs ≤ length (cond b ys xs)) × (length ys ≤ length (cond b ys xs)) × (length (cond b xs ys) ≤ length (cond b ys xs))
      by_test true e = let l = ltb-true (length xs) (length ys) e in (omega arith, omega arith, omega arith)
      by_test false e = let l = ltb-false (length xs) (length ys) e in (omega arith, omega arith, omega arith)

  pub both_begin : (xs ys : List X) → StartsWith (longer xs ys) (shorter xs ys) → StartsWith (longer xs ys) xs × StartsWith (longer xs ys) ys
  both_begin xs ys h = by_test (ltb (length xs) (length ys)) h
    where
      by_test : (b : Bool) → StartsWith (cond b ys xs) (cond b xs ys) → StartsWith (cond b ys xs) xs × StartsWith (cond b ys xs) ys
      by_test true h = (h, ([], sym (append-nil ys)))
      by_test false h = (([], sym (append-nil xs)), h)

module _ {J A K O : Type 0} (means : Ghosts K J A O) (base : K) (first : ℕ) where
  abbrev Rule : State K (View J A K) → Type 0
  Rule = Turns means base first

  abbrev V : Type 0
  V = View J A K

  pub splits : (id : ℕ) (v : V) → 0 < v.spare → Splits Rule id v (giver v) (newcomer v)
  splits id v some_left s r at =
      let l = giver v in
      let n = newcomer v in
      let counts : (f : V → ℕ) → f l + f n ≡ f v → total f (set s.views id l ++ n ∷ []) ≡ total f s.views = λ f e. let a = total_set f s.views id v l at in let b = total_more f (set s.views id l) n in omega arith in
      let fits = r.each id v at in
      record {
        served = r.served;
        out = r.out;
        trail = r.trail;
        few = r.few;
        words_are = r.words_are;
        tickets = λ t. let c = counts (λ (x : V). has_ticket t x.phase) (omega arith) in let k = r.tickets t in omega arith;
        counted = let c = counts (λ (x : V). ticketed x.phase) (omega arith) in let k = r.counted in omega arith;
        sized = let c = counts size (omega arith) in let k = r.sized in omega arith;
        places = λ p. let c = counts (λ (x : V). in_places p x.own) (omega arith) in let k = r.places p in omega arith;
        numbers = λ k. let e = spare_less k v.spare some_left in let c = counts (λ (x : V). in_numbers k x.own + in_spare k x.spare) (omega arith) in let h = r.numbers k in omega arith;
        each = λ j u b. ⊎_elim
            (λ was. each_set (Fits base first r.served r.trail) s.views id l r.each record {
              own_turn = fits.own_turn;
              seen_is = fits.seen_is;
              knows = fits.knows;
              inside = fits.inside;
              answers = fits.answers;
              of = fits.of;
              met_is = (r.trail, refl);
              met_none = inl refl;
            } j u was)
            (λ (e : n ≡ u). subst (Fits base first r.served r.trail) e record {
              own_turn = omega arith;
              seen_is = fits.seen_is;
              knows = λ c. absurd (omega arith);
              inside = λ p le. refl;
              answers = omega arith;
              of = fits.of;
              met_is = (r.trail, refl);
              met_none = inl refl;
            })
            (at_snoc (set s.views id l) n u j b);
        slot = subst (Slot means base r.served r.trail s.homes) (sym (counts (λ (x : V). called x.phase) (omega arith))) r.slot;
      }

  -- of two passes, one has no spare number, since 1 would stand in both
  one_has_none : (s : State K V) (r : Rule s) (id other : ℕ) (v w : V) → get_elem? s.views id ≡ some v → get_elem? s.views other ≡ some w → ¬ (other ≡ id) → (v.spare ≡ 0) ⊎ (w.spare ≡ 0)
  one_has_none s r id other v w at was apart =
      dite (ℕ_discrete v.spare 0) inl (λ full. dite (ℕ_discrete w.spare 0) inr (λ full'.
      let a = spare_one v.spare (omega arith) in
      let b = spare_one w.spare (omega arith) in
      let t = total_two (λ (x : V). in_numbers 1 x.own + in_spare 1 x.spare) s.views id other v w at was apart in
      let k = r.numbers 1 in
      let o : once_below 1 (first + 1) ≤ 1 = one_at_most _ in
      absurd (omega arith)))

  -- the view of two passes fits
  both_fit : (served : ℕ) (trail : List (J × A)) (v w : V) → ticketed v.phase ≡ 0 → (v.spare ≡ 0) ⊎ (w.spare ≡ 0) → Fits base first served trail v → Fits base first served trail w → Fits base first served trail (both v w)
  both_fit served trail v w idle one_has f g =
      let long = longest v.seen w.seen in record {
        own_turn = f.own_turn;
        seen_is = one_of (StartsWith trail) v.seen w.seen f.seen_is g.seen_is;
        knows = λ e. let z = not_called v.phase idle in absurd (omega arith);
        inside = λ p le.
            let a = f.inside p (omega (arith, long.0)) in
            let b = g.inside p (omega (arith, long.1)) in
            let c = total_append (λ (o : OwnPlaces). times p o.places) v.own w.own in
            omega arith;
        answers = omega arith;
        of = f.of;
        met_is = other_of (StartsWith trail) v.seen w.seen f.seen_is g.seen_is;
        met_none = ⊎_elim (λ (e : v.spare ≡ 0). inr (omega arith)) inl one_has;
      }

  spent_fits : (served : ℕ) (trail : List (J × A)) → Fits base first served trail spent
  spent_fits served trail = record {
    own_turn = omega arith;
    seen_is = (trail, refl);
    knows = λ c. absurd (omega arith);
    inside = λ p le. refl;
    answers = omega arith;
    of = λ b e. absurd (cc);
    met_is = (trail, refl);
    met_none = inl refl;
  }

  pub meets : (id : ℕ) (v : V) (other : ℕ) (w : V) → ticketed v.phase ≡ 0 → ticketed w.phase ≡ 0 → Joins Rule id v other w (both v w) spent
  meets id v other w idle still s r at apart there =
      let m = both v w in
      let was : get_elem? s.views other ≡ some w = sym (set_else s.views id other m apart) ∙ there in
      let counts : (f : V → ℕ) → f m + f spent ≡ f v + f w → total f (set (set s.views id m) other spent) ≡ total f s.views =
      λ f e. let a = total_set f s.views id v m at in let b = total_set f (set s.views id m) other w spent there in omega arith in
      let one_has = one_has_none s r id other v w at was apart in
      record {
        served = r.served;
        out = r.out;
        trail = r.trail;
        few = r.few;
        words_are = r.words_are;
        tickets = λ t. let z = no_ticket t w.phase still in let c = counts (λ (x : V). has_ticket t x.phase) (omega arith) in let k = r.tickets t in omega arith;
        counted = let c = counts (λ (x : V). ticketed x.phase) (omega arith) in let k = r.counted in omega arith;
        sized = let l = length-append v.own w.own in let c = counts size (omega arith) in let k = r.sized in omega arith;
        places = λ p. let a = total_append (λ (o : OwnPlaces). times p o.places) v.own w.own in let c = counts (λ (x : V). in_places p x.own) (omega arith) in let k = r.places p in omega arith;
        numbers = λ k.
            let a = total_append (λ (o : OwnPlaces). one_if (eqb o.number k)) v.own w.own in
            let b = spare_sum k v.spare w.spare one_has in
            let c = counts (λ (x : V). in_numbers k x.own + in_spare k x.spare) (omega arith) in
            let h = r.numbers k in
            omega arith;
        each = each_set (Fits base first r.served r.trail) (set s.views id m) other spent
            (each_set (Fits base first r.served r.trail) s.views id m r.each (both_fit r.served r.trail v w idle one_has (r.each id v at) (r.each other w was)))
            (spent_fits r.served r.trail);
        slot = subst (Slot means base r.served r.trail s.homes) (let z = not_called w.phase still in sym (counts (λ (x : V). called x.phase) (omega arith))) r.slot;
      }

  -- the numbers of one pass, as its view has them
  few_each : (s : State K V) (r : Rule s) (id : ℕ) (v : V) → get_elem? s.views id ≡ some v → (b : K) → v.base ≡ Some b
      → (size v ≤ v.first + 1) × ((k : ℕ) → in_numbers k v.own + in_spare k v.spare ≤ once_below k (v.first + 1))
  few_each s r id v at b of =
      let e : v.first ≡ first = ((r.each id v at).of b of).1 in (
        (let a = total_at size s.views id v at in let z = r.sized in omega arith),
        λ k.
            let a = total_at (λ (x : V). in_numbers k x.own + in_spare k x.spare) s.views id v at in
            let z = r.numbers k in
            let o : once_below k (v.first + 1) ≡ once_below k (first + 1) = ap (λ (n : ℕ). once_below k (n + 1)) e in
            omega arith,
      )

  pub compares : (slots id : ℕ) (m : Me K V) → length m.0.met_seen ≤ length m.0.seen → Allows Rule slots id m 0 (λ n. n) (Compares (step slots 0 0 0 none) m)
  compares slots id m shorter_met s r count found small =
      let f = r.each id m.0 found in (
        m.0,
        keeps,
        tt,
        subst Rule (λ k. record { words = sym (set-get_or s.words 0 0) k; homes = s.homes; views = sym (set_again s.views id m.0 found) k }) r,
        (refl, begins_longer r.trail m.0.seen m.0.met_seen f.seen_is f.met_is shorter_met, f.met_none, few_each s r id m.0 found),
      )

pub met_shorter : {J A K : Type 0} (v w : View J A K) → length (both v w).met_seen ≤ length (both v w).seen
met_shorter v w = (longest v.seen w.seen).2

-- what the comparison tells of the numbers of the two
pub meets_apart : {J A K : Type 0} (v w : View J A K) (n k : ℕ) → (w.spare ≡ 0) ⊎ (w.spare ≡ v.spare + w.spare) → in_numbers k (v.own ++ w.own) + in_spare k (v.spare + w.spare) ≤ once_below k n
    → (in_numbers k v.own + in_spare k v.spare) + (in_numbers k w.own + in_spare k w.spare) ≤ once_below k n
meets_apart v w n k one_has once =
    let a = total_append (λ (o : OwnPlaces). one_if (eqb o.number k)) v.own w.own in
    let b = spare_sum k v.spare w.spare (⊎_elim (λ (e : w.spare ≡ 0). inr e) (λ (e : w.spare ≡ v.spare + w.spare). inl (omega arith)) one_has) in
    omega arith
