use Rattle.std.proofs.Common.{arith, ◌∙◌, ap, sym}
use Rattle.turn_lock.proofs.Meeting.{splits}
use Rattle.turn_lock.proofs.Rested.{giver_rests}
use Rattle.turn_lock.proofs.lock.TurnLock.split.Goals as goal

pub split_seat-seat-requires : goal.split_seat-seat-requires
split_seat-seat-requires g c =
    let two = c.self.invariant.0 in
    let spare = c.pass.invariant.spare_is in
    let same = ap (λ v. v.spare) c.pass.view_is in
    let some = c.requires.spare in
    (ap (λ v. v.table) c.pass.view_is ∙ c.requires.pass.0 ∙ sym (ap (λ v. v.table) c.self.view_is), omega arith, splits _ _ _ _ _ (omega arith))

pub invariant_of-pass : goal.invariant_of-pass
invariant_of-pass g c =
    let same = ap (λ v. v.spare) c.pass.view_is in
    let some = c.requires.spare in
    giver_rests g.K.Kept c.pass.inside.seat c.split_seat-seat.new.seat c.split_seat-seat.result _ _ _ _ (omega arith) c.pass.invariant c.split_seat-seat.ensures.2
