-- The roles of a launch (LTI 1.1.1, section 3).
use Rattle.std.specs.Prelude.{ℕ, List, [], Option, None, Some}
use Rattle.lti_roles.specs.declared.role.Role.{Role}
use Rattle.lti_roles.specs.Roles.{roles_of}
use Rattle.lti_launch.specs.declared.fields.LaunchField.TheVariants as field
use Rattle.lti_launch.specs.Launch.{LaunchValue, value_of}

-- the roles that a text lists, or none without a text
abbrev pub listed_roles : Option (List ℕ) → List Role
listed_roles None = []
listed_roles (Some text) = roles_of text

-- the roles that the launch lists
abbrev pub roles_in : LaunchValue → List Role
roles_in launch = listed_roles (value_of launch field.Roles)
