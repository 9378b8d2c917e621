use Rattle.std.proofs.Common.{◌≡◌, length}
use Rattle.oauth_header.specs.Item.{are_escapes}
use Rattle.oauth_header.proofs.items.are_escapes.Given as goal

abbrev pub invariant-loop-rest : goal.invariant-loop-rest
invariant-loop-rest l = are_escapes l.fn.text ≡ are_escapes l.rest

abbrev pub decreases-loop-rest : goal.decreases-loop-rest
decreases-loop-rest l = length l.rest
