use Rattle.std.proofs.Common.{is_ok, ◌∙◌}
use Rattle.lti_outside.specs.MemoryDisk.{log_of}
use Rattle.lti_outside.specs.declared.disk_call.DiskCall.TheVariants.{Sync}
use Rattle.lti_outside.proofs.DiskCallLemmas.{quiet, synced_reads}
use Rattle.lti_outside.proofs.memory_disk.MemoryDisk.note_sync.Goals as goal

pub invariant_of-self-clause-cached : goal.invariant_of-self-clause-cached
invariant_of-self-clause-cached c = λ ready.
    let m = c.make_ready.new.self in
    m.cached ready ∙ quiet (log_of m) c.push.new.self.items (Sync c.args.done) (is_ok c.push.result) c.push.ensures.items (synced_reads c.args.done)
