-- A pass that rests after it was made, split or whole.
use Rattle.std.proofs.Common.{◌≡◌, ℕ, ◌+◌, ◌-◌, ◌<◌, ◌≤◌, List, [], length, eqb, sym, ap, ◌∙◌, subst, arith}
use mathlib.Core.Option.{some}
use Rattle.std.specs.Option.{unwrap_or}
use Rattle.atomic_table.specs.declared.shared.Seat.{Seat}
use Rattle.turn_lock.specs.declared.kept.Kept.{Ghosts}
use Rattle.turn_lock.specs.declared.view.View.{View}
use Rattle.turn_lock.specs.Counts.{one_if}
use Rattle.turn_lock.specs.Owned.{in_numbers, first_number}
use Rattle.turn_lock.specs.Views.{opened, giver, newcomer}
use Rattle.turn_lock.specs.Resting.{Rests}
use Rattle.turn_lock.proofs.Numbering.{all_numbers, spare_less}

module _ {J A K O : Type 0} (means : Ghosts K J A O) where
  abbrev V : Type 0
  V = View J A K

  pub opened_rests : (seat : Seat K V) (kept : K) (spare : ℕ) → seat.me ≡ (opened kept spare, []) → spare ≤ 64 → means.law (means.origin kept) (means.trail kept) → means.trail kept ≡ [] → Rests means seat 0 spare 1 spare
  opened_rests seat kept spare is few law empty =
      let v : seat.me.0 ≡ opened kept spare = ap (λ m. m.0) is in
      record {
        idle = ap (λ (x : V). x.phase) v;
        free = ap (λ m. m.1) is;
        number_is = ap (λ (x : V). first_number x.own) v;
        spare_is = ap (λ (x : V). x.spare) v;
        answered_is = ap (λ (x : V). length x.own) v;
        first_is = ap (λ (x : V). x.first) v;
        few = omega arith;
        most = few;
        once = λ k. let e : in_numbers k seat.me.0.own ≡ one_if (eqb 0 k) + 0 = ap (λ (x : V). in_numbers k x.own) v in let a = all_numbers k spare in omega arith;
        lawful = λ b e.
            let same : kept ≡ b = ap (λ o. unwrap_or o kept) (sym (ap (λ (x : V). x.base) v) ∙ e) in
            subst (λ (xs : List (J × A)). means.law (means.origin b) xs) (empty ∙ sym (ap (λ (x : V). x.seen) v)) (subst (λ (y : K). means.law (means.origin y) (means.trail kept)) same law);
      }

  module _ (seat left right : Seat K V) (number spare answered first : ℕ) (some_left : 0 < spare) (rests : Rests means seat number spare answered first) where
    pub giver_rests : left.me ≡ (giver seat.me.0, seat.me.1) → Rests means left number (spare - 1) answered first
    giver_rests is =
        let v : left.me.0 ≡ giver seat.me.0 = ap (λ m. m.0) is in
        let few = rests.few in
        record {
          idle = ap (λ (x : V). x.phase) v ∙ rests.idle;
          free = ap (λ m. m.1) is ∙ rests.free;
          number_is = ap (λ (x : V). first_number x.own) v ∙ rests.number_is;
          spare_is = ap (λ (x : V). x.spare) v ∙ ap (λ (n : ℕ). n - 1) rests.spare_is;
          answered_is = ap (λ (x : V). length x.own) v ∙ rests.answered_is;
          first_is = ap (λ (x : V). x.first) v ∙ rests.first_is;
          few = omega arith;
          most = rests.most;
          once = λ k. let e : in_numbers k left.me.0.own ≡ in_numbers k seat.me.0.own = ap (λ (x : V). in_numbers k x.own) v in let o = rests.once k in let l = spare_less k spare some_left in omega arith;
          lawful = λ b e. subst (λ (xs : List (J × A)). means.law (means.origin b) xs) (sym (ap (λ (x : V). x.seen) v)) (rests.lawful b (sym (ap (λ (x : V). x.base) v) ∙ e));
        }

    pub newcomer_rests : right.me ≡ (newcomer seat.me.0, []) → Rests means right spare 0 1 first
    newcomer_rests is =
        let v : right.me.0 ≡ newcomer seat.me.0 = ap (λ m. m.0) is in
        record {
          idle = ap (λ (x : V). x.phase) v;
          free = ap (λ m. m.1) is;
          number_is = ap (λ (x : V). first_number x.own) v ∙ ap some rests.spare_is;
          spare_is = ap (λ (x : V). x.spare) v;
          answered_is = ap (λ (x : V). length x.own) v;
          first_is = ap (λ (x : V). x.first) v ∙ rests.first_is;
          few = omega arith;
          most = rests.most;
          once = λ k.
              let e : in_numbers k right.me.0.own ≡ one_if (eqb seat.me.0.spare k) + 0 = ap (λ (x : V). in_numbers k x.own) v in
              let s : one_if (eqb seat.me.0.spare k) ≡ one_if (eqb spare k) = ap (λ (n : ℕ). one_if (eqb n k)) rests.spare_is in
              let o = rests.once k in
              let l = spare_less k spare some_left in
              omega arith;
          lawful = λ b e. subst (λ (xs : List (J × A)). means.law (means.origin b) xs) (sym (ap (λ (x : V). x.seen) v)) (rests.lawful b (sym (ap (λ (x : V). x.base) v) ∙ e));
        }
