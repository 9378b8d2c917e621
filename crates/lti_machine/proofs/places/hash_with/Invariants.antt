use Rattle.std.proofs.Common.{◌≡◌, drop}
use Rattle.std.specs.List.{fold}
use Rattle.lti_machine.specs.Places.{mixed}
use Rattle.lti_machine.proofs.places.hash_with.Given as goal

-- the bytes that are left, mixed into the hash so far, give the hash of all
abbrev pub invariant-loop-byte : goal.invariant-loop-byte
invariant-loop-byte l = fold mixed l.mixed (drop l.byte-index l.byte-items) ≡ fold mixed l.fn.hash l.byte-items
