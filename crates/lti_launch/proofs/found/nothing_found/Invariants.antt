use Rattle.std.proofs.Common.{◌≡◌, take, map, []}
use Rattle.lti_launch.specs.Found.{found_in}
use Rattle.lti_launch.proofs.found.nothing_found.Given as goal

-- nothing was found so far
abbrev pub invariant-loop : goal.invariant-loop
invariant-loop l = l.found.items ≡ map (found_in []) (take l.index l.fields)
