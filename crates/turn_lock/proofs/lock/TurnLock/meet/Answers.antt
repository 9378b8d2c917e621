use Rattle.std.proofs.Common.{arith, ◌≡◌, ◌∙◌, ◌+◌, ◌≤◌, ◌⊎◌, ap, sym, subst, length}
use Rattle.turn_lock.specs.declared.view.View.{View}
use Rattle.turn_lock.specs.Counts.{once_below}
use Rattle.turn_lock.specs.Owned.{in_numbers, in_spare}
use Rattle.turn_lock.specs.Views.{ticketed, both}
use Rattle.turn_lock.specs.Passes.{stands}
use Rattle.turn_lock.proofs.Meeting.{meets, compares, met_shorter, meets_apart}
use Rattle.turn_lock.proofs.lock.TurnLock.meet.Goals as goal

pub join_seat-requires : goal.join_seat-requires
join_seat-requires g c =
    let two = c.self.invariant.0 in
    let r = c.requires in
    let it = c.into_seat-seat.ensures in
    let mine = sym (ap (λ v. v.table) c.self.view_is) in (
      ap (λ v. v.table) c.pass.view_is ∙ r.pass.0 ∙ mine,
      it.table_is ∙ r.other.0 ∙ mine,
      it.rests.free,
      omega arith,
      meets _ _ _ _ _ _ _ (ap ticketed c.pass.invariant.idle) (ap ticketed it.rests.idle),
    )

pub load-requires : goal.load-requires
load-requires g c =
    let two = c.self.invariant.0 in
    let j = c.join_seat.ensures in (
      j.0 ∙ ap (λ v. v.table) c.pass.view_is ∙ c.requires.pass.0 ∙ sym (ap (λ v. v.table) c.self.view_is),
      omega arith,
      compares _ _ _ _ _ _
          (subst (λ (v : View _ _ _). length v.met_seen ≤ length v.seen) (sym (ap (λ m. m.0) j.2)) (met_shorter c.pass.inside.seat.me.0 c.into_seat-seat.result.0.me.0)),
    )

pub returns-clause-apart : goal.returns-clause-apart
returns-clause-apart g c = λ k.
    let v = c.pass.inside.seat.me.0 in
    let w = c.into_seat-seat.result.0.me.0 in
    let it = c.into_seat-seat.ensures in
    let is : c.join_seat.new.seat.me.0 ≡ both v w = ap (λ m. m.0) c.join_seat.ensures.2 in
    let told = c.load.ensures.2 in
    let one_has = subst (λ (x : View _ _ _). (x.met_spare ≡ 0) ⊎ (x.met_spare ≡ x.spare)) is told.2 in
    let few = told.3 c.args.self.now.base (ap (λ (x : View _ _ _). x.base) is ∙ ap (λ p. p.base) c.pass.view_is ∙ c.requires.pass.1) in
    let once = subst (λ (x : View _ _ _). in_numbers k x.own + in_spare k x.spare ≤ once_below k (x.first + 1)) is (few.1 k) in
    let apart = meets_apart v w (v.first + 1) k one_has once in
    let mine : stands k c.args.pass.now ≡ in_numbers k v.own + in_spare k v.spare =
    ap (stands k) (sym c.pass.view_is) ∙ ap (λ n. in_numbers k v.own + in_spare k n) (sym c.pass.invariant.spare_is) in
    let theirs : stands k c.args.other ≡ in_numbers k w.own + in_spare k w.spare = λ i. in_numbers k (sym it.own_is i) + in_spare k (sym (it.rests.spare_is ∙ it.spare_is) i) in
    let all : once_below k (v.first + 1) ≡ once_below k (c.args.pass.now.first + 1) = ap (λ n. once_below k (n + 1)) (c.pass.invariant.first_is ∙ ap (λ p. p.first) c.pass.view_is) in
    omega arith
