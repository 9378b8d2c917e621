use Rattle.std.proofs.Common.{arith}
use Rattle.lti_outside.proofs.DiskMomentLemmas.{LeavesOnly-start}
use Rattle.gate_journal.specs.Half.{StandsFor}
use Rattle.gate_journal.specs.Journal.{place_of}
use Rattle.gate_journal.proofs.HeadLemmas.{Stands-for}
use Rattle.gate_journal.proofs.PackedLemmas.{shutting}
use Rattle.gate_journal.proofs.StepLemmas.{step_left, step_moments, step_done}
use Rattle.gate_journal.proofs.journal.Journal.shut_other.Goals as goal

pub returns-then-not-self-clause-crash : goal.returns-then-not-self-clause-crash
returns-then-not-self-clause-crash g c = λ payloads keeps.
    let m = c.args.self.now in
    (keeps, LeavesOnly-start g.D.Disk m.disk (λ image. StandsFor image m.half payloads) g.met.D.Disk.only_now (λ image left. Stands-for image (place_of m) m.is_open m.may_open payloads (keeps.each image left)))

pub returns-in_err-write_step-clause-crash : goal.returns-in_err-write_step-clause-crash
returns-in_err-write_step-clause-crash g c = λ payloads keeps.
    let m = c.args.self.now in
    let some = m.some in
    let step = shutting (place_of m) m.is_open m.may_open payloads c.other_place-place.result (omega (arith, some)) c.other_place-place.ensures c.if-not-self.false in
    let left = step_left g.D.Disk step m.disk c.write_step.new.disk keeps.each c.write_step.ensures.wrote in (
      record { tells = keeps.tells; each = left },
      step_moments g.D.Disk step m.disk c.write_step.new.disk keeps.each c.write_step.ensures.wrote (λ image. StandsFor image m.half payloads)
          (λ image. Stands-for image (place_of m) m.is_open m.may_open payloads),
    )

pub returns-clause-crash : goal.returns-clause-crash
returns-clause-crash g c = λ payloads keeps.
    let m = c.args.self.now in
    let some = m.some in
    let step = shutting (place_of m) m.is_open m.may_open payloads c.other_place-place.result (omega (arith, some)) c.other_place-place.ensures c.if-not-self.false in
    let left = step_done g.D.Disk step m.disk c.write_step.new.disk keeps.each c.write_step.ensures.wrote g.met.D.Disk.current m.room
    (c.in_ok-write_step.ensures.synced keeps.tells) in (
      record { tells = keeps.tells; each = left },
      step_moments g.D.Disk step m.disk c.write_step.new.disk keeps.each c.write_step.ensures.wrote (λ image. StandsFor image m.half payloads)
          (λ image. Stands-for image (place_of m) m.is_open m.may_open payloads),
    )
