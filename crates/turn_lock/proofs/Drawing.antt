-- Drawing a ticket keeps the rule.
use Rattle.std.proofs.Common.{◌≡◌, ℕ, ◌+◌, ◌%◌, ◌^◌, ◌≤◌, List, [], ◌∷◌, length, set, get_or, refl, sym, ap, ◌∙◌, subst, arith}
use Rattle.std.proofs.Math.Nat.{mod-add-mod}
use mathlib.Core.Option.{none}
use Rattle.atomic_table.specs.Table.{Me, step, keeps, Allows}
use Rattle.turn_lock.specs.declared.view.Phase.TheVariants.{Idle, Waiting}
use Rattle.turn_lock.specs.declared.view.View.{View}
use Rattle.turn_lock.proofs.Totals.{total_set, each_set, below_more}
use Rattle.turn_lock.specs.declared.kept.Kept.{Ghosts}
use Rattle.turn_lock.specs.Counts.{total, once_below}
use Rattle.turn_lock.specs.Owned.{in_places, in_numbers, in_spare}
use Rattle.turn_lock.specs.Views.{ticketed, has_ticket, called, in_phase, size}
use Rattle.turn_lock.specs.Rule.{Fits, Slot, Turns}
use Rattle.turn_lock.specs.Steps.{Draws}

module _ {J A K O : Type 0} (means : Ghosts K J A O) where
  pub draws : (base : K) (first slots id : ℕ) (m : Me K (View J A K)) → m.0.phase ≡ Idle → 1 ≤ length m.0.own
      → Allows (Turns means base first) slots id m 0 (λ n. (n + 1) % 2 ^ 64) (Draws (step slots 0 1 0 none) m)
  draws base first slots id m idle own s r count found small =
      let t = r.served + r.out in
      let v = m.0 in
      let w = in_phase (Waiting t) v in
      let none-had : (u : ℕ) → has_ticket u v.phase ≡ 0 = λ u. ap (has_ticket u) idle in
      let none-out : ticketed v.phase ≡ 0 = ap ticketed idle in
      let none-called : called v.phase ≡ 0 = ap called idle in
      let word : get_or s.words 0 0 ≡ t % 2 ^ 64 = ap (λ (ws : List ℕ). get_or ws 0 0) r.words_are in (
        w,
        keeps,
        tt,
        record {
          served = r.served;
          out = r.out + 1;
          trail = r.trail;
          few = r.few;
          words_are = ap (λ (ws : List ℕ). set ws 0 ((get_or ws 0 0 + 1) % 2 ^ 64)) r.words_are ∙ ap (λ (k : ℕ). k ∷ r.served % 2 ^ 64 ∷ []) (mod-add-mod t (2 ^ 64) 1 ∙ ap (λ (k : ℕ). k % 2 ^ 64) (let e : t + 1 ≡ r.served + (r.out + 1) = omega arith in e));
          tickets = λ u.
              let e = total_set (λ (x : View J A K). has_ticket u x.phase) s.views id v w found in
              let k = r.tickets u in
              let a = below_more u t in
              let b : once_below u (t + 1) ≡ once_below u (r.served + (r.out + 1)) = ap (once_below u) (let e : t + 1 ≡ r.served + (r.out + 1) = omega arith in e) in
              let z = none-had u in
              omega arith;
          counted = let e = total_set (λ (x : View J A K). ticketed x.phase) s.views id v w found in let k = r.counted in omega arith;
          sized = let e = total_set size s.views id v w found in let k = r.sized in omega arith;
          places = λ p. let e = total_set (λ (x : View J A K). in_places p x.own) s.views id v w found in let k = r.places p in omega arith;
          numbers = λ p. let e = total_set (λ (x : View J A K). in_numbers p x.own + in_spare p x.spare) s.views id v w found in let k = r.numbers p in omega arith;
          each =
              let f = r.each id v found in
              each_set (Fits base first r.served r.trail) s.views id w r.each record {
                seen_is = f.seen_is;
                met_is = f.met_is;
                met_none = f.met_none;
                inside = f.inside;
                own_turn = omega arith;
                knows = λ e. absurd (omega arith);
                answers = own;
                of = f.of;
              };
          slot = subst (Slot means base r.served r.trail s.homes) (let e = total_set (λ (x : View J A K). called x.phase) s.views id v w found in let k : total (λ (x : View J A K). called x.phase) s.views ≡ total (λ (x : View J A K). called x.phase) (set s.views id w) = omega arith in k) r.slot;
        },
        (t, sym word, refl),
      )
