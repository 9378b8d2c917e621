use Rattle.std.proofs.Common.{◌≡◌, take, map}
use Rattle.lti_launch.specs.Found.{value_found}
use Rattle.lti_launch.specs.Launch as spec
use Rattle.lti_launch.proofs.writing.field_pairs.Given as goal

-- the parameters so far were written
abbrev pub invariant-loop-place : goal.invariant-loop-place
invariant-loop-place l = l.pairs ≡ spec.field_pairs (take l.place l.fields) (map value_found (take l.place l.found))
