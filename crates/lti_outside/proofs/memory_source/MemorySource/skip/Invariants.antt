use Rattle.std.proofs.Common.{◌≡◌, ◌-◌, vec_len}
use Rattle.lti_outside.specs.Memory.{source_told}
use Rattle.lti_outside.proofs.memory_source.MemorySource.skip.Given as goal

-- what the source tells is as before
abbrev pub invariant-loop-self : goal.invariant-loop-self
invariant-loop-self l = record {
  told : source_told l.self ≡ source_told l.fn.self;
  faults : l.self.faults ≡ l.fn.self.faults;
}

abbrev pub decreases-loop-self : goal.decreases-loop-self
decreases-loop-self l = vec_len l.self.pieces - l.self.place
