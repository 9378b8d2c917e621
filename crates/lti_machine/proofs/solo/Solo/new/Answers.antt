use Rattle.std.proofs.Common.{arith, refl}
use Rattle.lti_machine.specs.Kept.{NoRepeats}
use Rattle.lti_machine.specs.Places.{IsIndexed}
use Rattle.lti_machine.proofs.solo.Solo.new.Goals as goal

pub invariant_of-result : goal.invariant_of-result
unfolding NoRepeats IsIndexed
invariant_of-result c =
    rw c.new.ensures.items (record { kept = record { alone = tt; short = omega arith }; indexed = tt; greatest = refl })
