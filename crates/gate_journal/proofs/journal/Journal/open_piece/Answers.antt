use Rattle.std.proofs.Common.{refl, arith}
use Rattle.gate_journal.specs.Half.{payload_of}
use Rattle.gate_journal.specs.Journal.{place_of}
use Rattle.gate_journal.proofs.ChangeLemmas.{undone, doubted, done}
use Rattle.gate_journal.proofs.PieceLemmas.{piece_opens}
use Rattle.gate_journal.proofs.StepLemmas.{unwritten, unopened, opened}
use Rattle.gate_journal.proofs.journal.Journal.open_piece.Goals as goal

pub returns-in_err-write_step-clause-crash : goal.returns-in_err-write_step-clause-crash
returns-in_err-write_step-clause-crash g c = λ payloads keeps.
    let m = c.args.self.now in
    let some = m.some in
    let opens = piece_opens (place_of m) m.is_open m.may_open payloads c.args.framed.now c.gate_place-gate.result (omega (arith, some)) c.gate_place-gate.ensures c.requires.frame c.requires.fits in
    let left = unwritten g.D.Disk opens m.disk c.write_step.new.disk keeps.each c.write_step.ensures.wrote in
    undone _ _ _ payloads _ left.0 c.from_residual.ensures.0 c.requires.settled (record { tells = keeps.tells; each = left.1 })

pub returns-in_err-write_step-2-clause-crash : goal.returns-in_err-write_step-2-clause-crash
returns-in_err-write_step-2-clause-crash g c = λ payloads keeps.
    let m = c.args.self.now in
    let some = m.some in
    let opens = piece_opens (place_of m) m.is_open m.may_open payloads c.args.framed.now c.gate_place-gate.result (omega (arith, some)) c.gate_place-gate.ensures c.requires.frame c.requires.fits in
    let left = unopened g.D.Disk opens m.disk c.write_step.new.disk keeps.each c.write_step.ensures.wrote g.met.D.Disk.current m.room
    (c.in_ok-write_step.ensures.synced keeps.tells) c.write_step-2.new.disk c.write_step-2.ensures.wrote in
    doubted _ _ _ payloads _ left.0 c.from_residual-in_err-write_step-2.ensures.0 refl (record { tells = keeps.tells; each = λ image is. (payload_of c.args.framed.now, refl, left.1 image is) })

pub returns-clause-crash : goal.returns-clause-crash
returns-clause-crash g c = λ payloads keeps.
    let m = c.args.self.now in
    let some = m.some in
    let opens = piece_opens (place_of m) m.is_open m.may_open payloads c.args.framed.now c.gate_place-gate.result (omega (arith, some)) c.gate_place-gate.ensures c.requires.frame c.requires.fits in
    let left = opened g.D.Disk opens m.disk c.write_step.new.disk keeps.each c.write_step.ensures.wrote g.met.D.Disk.current m.room
    (c.in_ok-write_step.ensures.synced keeps.tells) c.write_step-2.new.disk c.write_step-2.ensures.wrote (c.in_ok-write_step-2.ensures.synced keeps.tells) in
    done _ _ _ payloads _ left.0 refl refl (record { tells = keeps.tells; each = left.1 })
