use Rattle.std.proofs.Common.{inl, refl, ap, ◌∙◌}
use Rattle.lti_outside.proofs.DiskMomentLemmas.{LeavesOnly-weaken}
use Rattle.gate_journal.specs.Half.{StandsFor, IsEither}
use Rattle.gate_journal.specs.Journal.{is_doubt}
use Rattle.gate_journal.proofs.ChangeLemmas.{undone, untouched, unpacked, repacked_behind}
use Rattle.gate_journal.proofs.journal.Journal.replace.Goals as goal

pub returns-then-packed-self-clause-repacks : goal.returns-then-packed-self-clause-repacks
returns-then-packed-self-clause-repacks g c =
    let m = c.args.self.now in
    unpacked {g = g.D.Disk} m m _ _ _ refl refl (λ payloads pieces is keeps. untouched {g = g.D.Disk} m _ payloads pieces g.met.D.Disk.only_now refl c.requires.settled keeps)

pub returns-in-Err-clause-repacks : goal.returns-in-Err-clause-repacks
returns-in-Err-clause-repacks g c = unpacked _ _ _ _ _ refl c.in-Err.ensures.place (λ payloads pieces is keeps.
    let m = c.args.self.now in
    let left = c.in-Err.ensures.crash payloads keeps in
    undone _ _ _ payloads pieces (LeavesOnly-weaken g.D.Disk m.disk c.shut_other.new.self.disk (λ image. StandsFor image m.half payloads) (IsEither m.half payloads pieces) left.1 (λ image here. inl here))
    refl (ap is_doubt c.in-Err.ensures.doubt ∙ c.requires.settled) left.0)

pub returns-clause-repacks : goal.returns-clause-repacks
returns-clause-repacks g c =
    let s = c.in_default.ensures in
    repacked_behind _ _ _ _ _ c.shut_other.new.self s.place s.crash c.open_packed.ensures.repacks
