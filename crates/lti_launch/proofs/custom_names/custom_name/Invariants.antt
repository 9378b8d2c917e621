use Rattle.std.proofs.Common.{◌≡◌, ◌++◌, map, codes}
use Rattle.std.specs.String.{string_bytes}
use Rattle.lti_launch.specs.CustomName as spec
use Rattle.lti_launch.proofs.custom_names.custom_name.Given as goal

-- the characters so far were written
abbrev pub invariant-loop-c : goal.invariant-loop-c
invariant-loop-c l = string_bytes l.name ≡ codes "custom_" ++ map spec.custom_character l.yielded
