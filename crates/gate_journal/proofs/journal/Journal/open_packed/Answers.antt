use Rattle.std.proofs.Common.{◌≡◌, ◌+◌, ◌-◌, ℕ, length, not, refl, ap, arith}
use Rattle.gate_journal.specs.Journal.{place_of}
use Rattle.gate_journal.proofs.ChangeLemmas.{undone, doubted, done, unpacked, repacked}
use Rattle.gate_journal.proofs.PackedLemmas.{packed_opens}
use Rattle.gate_journal.proofs.StepLemmas.{unwritten, unopened, opened}
use Rattle.gate_journal.proofs.journal.Journal.open_packed.Goals as goal

pub returns-in_err-write_step-clause-repacks : goal.returns-in_err-write_step-clause-repacks
returns-in_err-write_step-clause-repacks g c = unpacked _ _ _ _ _ c.from_residual.ensures.0 refl (λ payloads pieces is keeps.
    let m = c.args.self.now in
    let some = m.some in
    let r = c.requires in
    let opens = packed_opens (place_of m) m.is_open m.may_open payloads c.other_place-place.result (omega (arith, some)) c.other_place-place.ensures r.shut c.args.generation pieces c.args.packed.now is r.fits c.ranges.generation.fits r.above in
    let left = unwritten g.D.Disk opens m.disk c.write_step.new.disk keeps.each c.write_step.ensures.wrote in
    undone _ _ _ payloads _ left.0 c.from_residual.ensures.0 r.settled (record { tells = keeps.tells; each = left.1 }))

pub returns-in_err-write_step-2-clause-repacks : goal.returns-in_err-write_step-2-clause-repacks
returns-in_err-write_step-2-clause-repacks g c = unpacked _ _ _ _ _ c.from_residual-in_err-write_step-2.ensures.0 refl (λ payloads pieces is keeps.
    let m = c.args.self.now in
    let some = m.some in
    let r = c.requires in
    let opens = packed_opens (place_of m) m.is_open m.may_open payloads c.other_place-place.result (omega (arith, some)) c.other_place-place.ensures r.shut c.args.generation pieces c.args.packed.now is r.fits c.ranges.generation.fits r.above in
    let left = unopened g.D.Disk opens m.disk c.write_step.new.disk keeps.each c.write_step.ensures.wrote g.met.D.Disk.current m.room
    (c.in_ok-write_step.ensures.synced keeps.tells) c.write_step-2.new.disk c.write_step-2.ensures.wrote in
    doubted _ _ _ payloads _ left.0 c.from_residual-in_err-write_step-2.ensures.0 refl (record { tells = keeps.tells; each = λ image here. (c.args.generation, r.shut, left.1 image here) }))

pub returns-clause-repacks : goal.returns-clause-repacks
returns-clause-repacks g c =
    let m = c.args.self.now in
    let some = m.some in
    let r = c.requires in
    let long = r.long in
    let ends : length c.args.packed.now ≡ 9 + (length c.args.packed.now - 9) = omega (arith, long) in
    repacked _ _ _ _ _ refl (ap (λ (k : ℕ). record { half = m.half; second = not m.is_second; generation = c.args.generation; gate = k }) ends) refl (λ payloads pieces is keeps.
    let opens = packed_opens (place_of m) m.is_open m.may_open payloads c.other_place-place.result (omega (arith, some)) c.other_place-place.ensures r.shut c.args.generation pieces c.args.packed.now is r.fits c.ranges.generation.fits r.above in
    let left = opened g.D.Disk opens m.disk c.write_step.new.disk keeps.each c.write_step.ensures.wrote g.met.D.Disk.current m.room
    (c.in_ok-write_step.ensures.synced keeps.tells) c.write_step-2.new.disk c.write_step-2.ensures.wrote (c.in_ok-write_step-2.ensures.synced keeps.tells) in
    done _ _ _ payloads _ left.0 refl refl (record { tells = keeps.tells; each = left.1 }))
