-- A look at the word that is served keeps the rule; where it finds the caller's ticket, the seat takes the value.
use Rattle.std.proofs.Common.{◌≡◌, ℕ, ◌+◌, ◌%◌, ◌^◌, ◌≤◌, List, [], ◌∷◌, length, set, get_or, eqb, refl, sym, ap, ◌∙◌, subst, ⊎_elim, inr, arith, eq-eqb, ne_eqb, length-append, MatchBool}
use Rattle.std.proofs.lemmas.List.{append-nil}
use mathlib.Core.Option.{some, none}
use mathlib.Core.Logic.{dite}
use native.Mathlib.Decide.{ℕ_discrete}
use lib.ListN.{get_elem?}
use lib.Seq.{set-get_or}
use Rattle.atomic_table.specs.Table.{State, Me, step, Act, keeps, takes, stepped, carried_after, Valid, Allows}
use Rattle.atomic_table.proofs.Lists.{set_again, one_turn}
use Rattle.turn_lock.specs.declared.view.Phase.TheVariants.{Waiting, Called}
use Rattle.turn_lock.specs.declared.view.View.{View}
use Rattle.turn_lock.proofs.Totals.{total_set, total_at, total_le, total_less, each_set, same_one, one_at_most, below_is_in, below_is_out}
use Rattle.turn_lock.specs.declared.kept.Kept.{Ghosts}
use Rattle.turn_lock.specs.Counts.{total, one_if, once_below}
use Rattle.turn_lock.specs.Trail.{StartsWith}
use Rattle.turn_lock.specs.Owned.{in_places, in_numbers, in_spare}
use Rattle.turn_lock.specs.Views.{ticketed, has_ticket, called, ticket_of, in_phase, sees, size}
use Rattle.turn_lock.specs.Rule.{Fits, Ready, Turns}
use Rattle.turn_lock.specs.Steps.{Comes, Looks}

pub starts_longer : {A : Type 0} (all front : List A) → StartsWith all front → length front ≤ length all
starts_longer all front h = let e : length all ≡ length front + length h.0 = ap length h.1 ∙ length-append front h.0 in omega arith

module _ {J A K O : Type 0} (means : Ghosts K J A O) (base : K) (first : ℕ) where
  abbrev Rule : State K (View J A K) → Type 0
  Rule = Turns means base first

  -- at most 65 tickets are out
  few_out : (s : State K (View J A K)) (r : Rule s) → r.out ≤ 65
  few_out s r =
      let e = total_le (λ (x : View J A K). ticketed x.phase) size s.views (λ i v at. let a = (r.each i v at).answers in let k : size v ≡ length v.own + v.spare = refl in omega arith) in
      let c = r.counted in
      let z = r.sized in
      let l = r.few in
      omega arith

  -- who has the ticket whose number modulo 2^64 is served has the one that is served
  served_is : (s : State K (View J A K)) (r : Rule s) (id t : ℕ) (v : View J A K) → get_elem? s.views id ≡ some v → has_ticket t v.phase ≡ 1 → r.served % 2 ^ 64 ≡ t % 2 ^ 64 → r.served ≡ t
  served_is s r id t v at has same =
      let e = total_at (λ (x : View J A K). has_ticket t x.phase) s.views id v at in
      let k = r.tickets t in
      let low : once_below t (r.served + r.out) ≤ 1 = one_at_most _ in
      let in_range = below_is_in t (r.served + r.out) (omega arith) in
      let from = below_is_out t r.served (omega arith) in
      let few = few_out s r in
      one_turn r.served t (2 ^ 64) from (omega arith) same

  -- who has the ticket that is served, and isn't called, finds none called
  none_called : (s : State K (View J A K)) (r : Rule s) (id : ℕ) (v : View J A K) → get_elem? s.views id ≡ some v → has_ticket r.served v.phase ≡ 1 → called v.phase ≡ 0
      → total (λ (x : View J A K). called x.phase) s.views ≡ 0
  none_called s r id v at has idle =
      let e = total_less (λ (x : View J A K). called x.phase) (λ (x : View J A K). has_ticket r.served x.phase) s.views id v (λ j u b. (r.each j u b).own_turn) at (omega arith) in
      let k = r.tickets r.served in
      let low : once_below r.served (r.served + r.out) ≤ 1 = one_at_most _ in
      omega arith

  -- a step that changes nothing
  unmoved : (s : State K (View J A K)) (i id : ℕ) (m : Me K (View J A K)) → get_elem? s.views id ≡ some m.0 → Rule s → Rule (stepped s i (get_or s.words i 0) id m.1 m.0 keeps)
  unmoved s i id m found r = subst Rule (λ k. record { words = sym (set-get_or s.words i 0) k; homes = s.homes; views = sym (set_again s.views id m.0 found) k }) r

  abbrev Found : (slots id : ℕ) (m : Me K (View J A K)) (s : State K (View J A K)) → Type 0
  Found slots id m s = (w : View J A K) × (a : Act K) × Valid s.homes m.1 a × Rule (stepped s 1 (get_or s.words 1 0) id m.1 w a) × Looks means (step slots 1 0 0 none) m (get_or s.words 1 0) (w, carried_after m.1 a)

  comes : (slots id t : ℕ) (m : Me K (View J A K)) → m.0.phase ≡ Waiting t → (s : State K (View J A K)) (r : Rule s) → get_elem? s.views id ≡ some m.0 → get_or s.words 1 0 ≡ ticket_of m.0.phase % 2 ^ 64 → Found slots id m s
  comes slots id t m waits s r found hit =
      let v = m.0 in
      let u = ticket_of v.phase in
      let ut : u ≡ t = ap ticket_of waits in
      let word : get_or s.words 1 0 ≡ r.served % 2 ^ 64 = ap (λ (ws : List ℕ). get_or ws 1 0) r.words_are in
      let has : (x : ℕ) → has_ticket x v.phase ≡ one_if (eqb u x) = λ x. ap (has_ticket x) waits ∙ ap (λ (k : ℕ). one_if (eqb k x)) (sym ut) in
      let now : r.served ≡ u = served_is s r id u v found (has u ∙ same_one u u refl) (sym word ∙ hit) in
      let mine : one_if (eqb u r.served) ≡ 1 = same_one u r.served (sym now) in
      let not-called : called v.phase ≡ 0 = ap called waits in
      let ticket : ticketed v.phase ≡ 1 = ap ticketed waits in
      let none-yet = none_called s r id v found (has r.served ∙ mine) not-called in
      let f = r.each id v found in
      ⊎_elim
      (λ (h : (total (λ (x : View J A K). called x.phase) s.views ≡ 0) × ((y : K) × (s.homes ≡ some y ∷ []) × Ready means base r.served r.trail y)).
      let y = h.1.0 in
      let ready = h.1.2 in
      let w = in_phase (Called u) (sees (means.trail y) v) in
      let is_xs : means.trail y ≡ r.trail = ready.trail_is in
      let after : Me K (View J A K) = (w, (0, y) ∷ m.1) in (
        w,
        takes 0 y,
        ap (λ (hs : List _). get_elem? hs 0) h.1.1,
        record {
          served = r.served;
          out = r.out;
          trail = r.trail;
          few = r.few;
          words_are = set-get_or s.words 1 0 ∙ r.words_are;
          tickets = λ x. let e = total_set (λ (x' : View J A K). has_ticket x x'.phase) s.views id v w found in let k = r.tickets x in let z = has x in omega arith;
          counted = let e = total_set (λ (x : View J A K). ticketed x.phase) s.views id v w found in let k = r.counted in omega arith;
          sized = let e = total_set size s.views id v w found in let k = r.sized in omega arith;
          places = λ p. let e = total_set (λ (x : View J A K). in_places p x.own) s.views id v w found in let k = r.places p in omega arith;
          numbers = λ p. let e = total_set (λ (x : View J A K). in_numbers p x.own + in_spare p x.spare) s.views id v w found in let k = r.numbers p in omega arith;
          each = each_set (Fits base first r.served r.trail) s.views id w r.each record {
            seen_is = ([], sym is_xs ∙ sym (append-nil (means.trail y)));
            met_is = f.met_is;
            met_none = f.met_none;
            inside = λ p le. let l = starts_longer r.trail v.seen f.seen_is in let e : length (means.trail y) ≡ length r.trail = ap length is_xs in f.inside p (omega arith);
            own_turn = omega arith;
            knows = λ _. is_xs;
            answers = let a = f.answers in omega arith;
            of = f.of;
          };
          slot = inr ((let e = total_set (λ (x : View J A K). called x.phase) s.views id v w found in omega arith), ap (λ (hs : List _). set hs 0 none) h.1.1);
        },
        subst (λ b. MatchBool b (Comes means m after) (after ≡ m)) (sym (eq-eqb (get_or s.words 1 0) (u % 2 ^ 64) hit)) (
          y,
          refl,
          (f.seen_is.0, is_xs ∙ f.seen_is.1),
          ready.turns_is ∙ ap (λ (k : ℕ). k % 2 ^ 64) now,
          λ b e. (ready.origin_is ∙ ap means.origin (sym (f.of b e).0), ready.limit_is ∙ ap means.limit (sym (f.of b e).0)),
        ),
      ))
      (λ (h : (total (λ (x : View J A K). called x.phase) s.views ≡ 1) × (s.homes ≡ none ∷ [])). absurd (omega arith))
      r.slot

  pub looks : (slots id t : ℕ) (m : Me K (View J A K)) → m.0.phase ≡ Waiting t → Allows Rule slots id m 1 (λ n. n) (Looks means (step slots 1 0 0 none) m)
  looks slots id t m waits s r count found small =
      dite (ℕ_discrete (get_or s.words 1 0) (ticket_of m.0.phase % 2 ^ 64))
      (λ hit. comes slots id t m waits s r found hit)
      (λ miss. (m.0, keeps, tt, unmoved s 1 id m found r, subst (λ b. MatchBool b (Comes means m m) (m ≡ m)) (sym (ne_eqb (get_or s.words 1 0) (ticket_of m.0.phase % 2 ^ 64) miss)) refl))
