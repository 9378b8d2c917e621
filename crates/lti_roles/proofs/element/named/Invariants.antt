use Rattle.std.proofs.Common.{◌≡◌, drop}
use Rattle.lti_roles.specs.Roles as spec
use Rattle.lti_roles.specs.Tables.{names_in}
use Rattle.lti_roles.proofs.element.named.Given as goal

-- the role isn't among the rows so far
abbrev pub invariant-loop-known : goal.invariant-loop-known
invariant-loop-known l = spec.named (names_in l.fn.names) l.fn.text ≡ spec.named (names_in (drop l.known-index l.fn.names)) l.fn.text
