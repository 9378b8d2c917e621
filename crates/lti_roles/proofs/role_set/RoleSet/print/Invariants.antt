use Rattle.std.proofs.Common.{◌≡◌, take}
use denote.Text.{Utf8}
use denote.Shadow.{shadow}
use Rattle.std.specs.String.{string_bytes}
use Rattle.lti_roles.specs.Roles.{printed_of}
use Rattle.lti_roles.proofs.PrintedLemmas.{separator}
use Rattle.lti_roles.proofs.role_set.RoleSet.print.Given as goal

-- the roles so far are printed
abbrev pub invariant-loop-role : goal.invariant-loop-role
invariant-loop-role l =
    shadow (Utf8 l.separator)
    × (string_bytes l.text ≡ printed_of (take l.role-index l.role-items))
    × (l.separator ≡ separator (take l.role-index l.role-items))
