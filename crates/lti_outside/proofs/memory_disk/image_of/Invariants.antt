use Rattle.std.proofs.Common.{take}
use Rattle.lti_outside.specs.DiskLog.{state_of, IsMixed}
use Rattle.lti_outside.proofs.memory_disk.image_of.Given as goal

abbrev pub invariant-loop-call : goal.invariant-loop-call
invariant-loop-call l = IsMixed l.pick (state_of (record { first = l.first; calls = take l.call-index l.calls })) l.reads.items l.image.items
