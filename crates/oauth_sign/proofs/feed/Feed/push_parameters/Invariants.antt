use Rattle.std.proofs.Common.{◌≤◌, ◌++◌, ◌∷◌, [], map, take, flat_map}
use Rattle.oauth_text.specs.Escape.{escape}
use Rattle.oauth_text.specs.Normal.{pair_text}
use Rattle.oauth_text.specs.Order.{escaped_parameter}
use Rattle.oauth_sign.specs.Feed.{Takes}
use Rattle.oauth_sign.proofs.feed.Feed.push_parameters.Given as goal

-- the parameters so far were added, each behind `&`
abbrev pub invariant-loop-parameter : goal.invariant-loop-parameter
invariant-loop-parameter l = record {
  room : l.self.len ≤ 512;
  taken : Takes l.initial.self l.self (escape (flat_map (λ p. (38 ∷ []) ++ pair_text p) (map escaped_parameter (take l.parameter-index l.others))));
}
