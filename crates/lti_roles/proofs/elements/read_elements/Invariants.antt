use Rattle.std.proofs.Common.{◌≡◌, ◌++◌, length}
use denote.Text.{Utf8}
use denote.Shadow.{shadow}
use Rattle.lti_roles.specs.Roles.{roles_of}
use Rattle.lti_roles.proofs.elements.read_elements.Given as goal

-- the roles so far, and then those of the rest
abbrev pub invariant-pieces : goal.invariant-pieces
invariant-pieces l = shadow (Utf8 l.rest) × (l.roles.items ++ roles_of l.rest ≡ roles_of l.fn.text)

abbrev pub decreases-pieces : goal.decreases-pieces
decreases-pieces l = length l.rest
