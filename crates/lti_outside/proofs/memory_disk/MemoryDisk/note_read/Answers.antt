use Rattle.std.proofs.Common.{is_ok, ◌∙◌}
use Rattle.lti_outside.specs.MemoryDisk.{log_of}
use Rattle.lti_outside.specs.declared.disk_call.DiskCall.TheVariants.{Read}
use Rattle.lti_outside.proofs.DiskCallLemmas.{quiet, read_reads}
use Rattle.lti_outside.proofs.memory_disk.MemoryDisk.note_read.Goals as goal

pub invariant_of-self-clause-cached : goal.invariant_of-self-clause-cached
invariant_of-self-clause-cached c = λ ready.
    let m = c.make_ready.new.self in
    m.cached ready ∙ quiet (log_of m) c.push.new.self.items (Read c.args.place c.args.len) (is_ok c.push.result) c.push.ensures.items (read_reads c.args.place c.args.len)
