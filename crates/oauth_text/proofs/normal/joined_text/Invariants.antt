use Rattle.std.proofs.Common.{◌≡◌, ◌++◌, ◌∷◌, [], map, take, flat_map, string_bytes}
use Rattle.oauth_text.specs.Normal.{pair_text}
use Rattle.oauth_text.specs.Order.{escaped_parameter}
use Rattle.oauth_text.proofs.normal.joined_text.Given as goal

-- the first parameter, and the others so far, each behind `&`
abbrev pub invariant-loop-parameter : goal.invariant-loop-parameter
invariant-loop-parameter l =
    string_bytes l.text ≡ string_bytes l.initial.text ++ flat_map (λ p. (38 ∷ []) ++ pair_text p) (map escaped_parameter (take l.parameter-index l.others))
