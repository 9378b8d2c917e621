use Rattle.std.proofs.Common.{take}
use Rattle.lti_launch.specs.Found.{AreSorted}
use Rattle.lti_launch.proofs.sorted.Sorted.of.Given as goal

-- the pairs so far were sorted
abbrev pub invariant-loop-pair : goal.invariant-loop-pair
invariant-loop-pair l = AreSorted l.sorted (take l.pair-index l.pairs)
