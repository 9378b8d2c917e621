use Rattle.gate_journal.proofs.ChangeLemmas.{on_err}
use Rattle.gate_journal.proofs.DoubtLemmas.{repair_moments, unrepaired, repaired}
use Rattle.gate_journal.proofs.journal.Journal.repair.Goals as goal

pub returns-in_err-write_step-clause-any_moment : goal.returns-in_err-write_step-clause-any_moment
returns-in_err-write_step-clause-any_moment g c = λ payloads others may.
    repair_moments g.D.Disk c.args.self.now c.doubtful_place-gate.result c.doubtful_place-gate.ensures payloads others may c.write_step.new.disk c.write_step.ensures.wrote

pub returns-in_err-write_step-clause-doubt_kept : goal.returns-in_err-write_step-clause-doubt_kept
returns-in_err-write_step-clause-doubt_kept g c = on_err c.from_residual.result _ (λ payloads others may.
    let left = unrepaired g.D.Disk c.args.self.now c.doubtful_place-gate.result c.doubtful_place-gate.ensures payloads others may c.write_step.new.disk c.write_step.ensures.wrote in
    record { tells = may.tells; each = left })

pub returns-clause-any_moment : goal.returns-clause-any_moment
returns-clause-any_moment g c = λ payloads others may.
    repair_moments g.D.Disk c.args.self.now c.doubtful_place-gate.result c.doubtful_place-gate.ensures payloads others may c.write_step.new.disk c.write_step.ensures.wrote

pub returns-clause-kept : goal.returns-clause-kept
returns-clause-kept g c = λ payloads others may.
    let left = repaired g.D.Disk c.args.self.now c.doubtful_place-gate.result c.doubtful_place-gate.ensures payloads others may c.write_step.new.disk c.write_step.ensures.wrote
    g.met.D.Disk.current (c.in_ok-write_step.ensures.synced may.tells) in
    record { tells = may.tells; each = left }
