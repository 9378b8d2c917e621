use Rattle.std.proofs.Common.{take}
use Rattle.oauth_request.specs.Found.{AreFoundIn}
use Rattle.oauth_request.proofs.protocol.found_in.Given as goal

-- what stands in the pairs so far was found
abbrev pub invariant-loop-pair : goal.invariant-loop-pair
invariant-loop-pair l = AreFoundIn l.found (take l.pair-index l.pairs)
