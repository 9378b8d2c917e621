use Rattle.std.proofs.Common.{◌≡◌, map, take}
use Rattle.oauth_text.specs.Normal.{escaped_pair}
use Rattle.oauth_text.specs.Order.{escaped_parameter}
use Rattle.oauth_text.proofs.order.borrowed.Given as goal

-- the pairs so far, as their escaped texts
abbrev pub invariant-loop-pair : goal.invariant-loop-pair
invariant-loop-pair l = map escaped_parameter l.made.items ≡ map escaped_pair (take l.pair-index l.pairs)
