use Rattle.std.proofs.Common.{sym, ◌∙◌, ap, length}
use Rattle.lti_outside.specs.DiskLaws.{reads_size}
use Rattle.lti_outside.specs.MemoryDisk.{log_of}
use Rattle.lti_outside.proofs.memory_disk.MemoryDiskDisk.size.Goals as goal

pub returns : goal.returns
returns c = ap length c.get.ensures ∙ sym (reads_size (log_of c.args.self.now))
