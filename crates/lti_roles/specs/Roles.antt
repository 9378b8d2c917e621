-- The roles that a text lists (LTI 1.1.1, section 3, parameter `roles`, and appendix A). An element is a prefix and a
-- name of its family, or a context role's name alone, and then nothing or `/` and a sub-role that isn't empty. That any
-- sub-role is taken, and any other element kept as it is spelled, are this project's own rules.
use Rattle.std.specs.Prelude.{◌≡◌, ℕ, ◌+◌, Bool, ◌==◌, nat_eq, List, length, drop, map, find, bytes_eq, codes, if◌then◌else◌, Option, None, Some}
use Rattle.std.specs.List.{before_first, after_first, starts_with, join_by}
use Rattle.std.specs.Option.{option_map}
use Rattle.lti_roles.specs.declared.names.RoleName.{RoleName}
use Rattle.lti_roles.specs.declared.role.Role.{Role}
use Rattle.lti_roles.specs.declared.role.Role.TheVariants.{Known, Other}
use Rattle.lti_roles.specs.Names.{Named, context_prefix, system_prefix, institution_prefix, context_names, system_names, institution_names}
use Rattle.lti_roles.specs.Elements.{elements_of}

-- the role that these names give the text
abbrev pub named : List Named → List ℕ → Option RoleName
named names text = option_map (λ row. row.1) (find (λ row. bytes_eq row.0 text) names)

-- what stands before the first `/`, and what stands behind it
abbrev pub name_part : List ℕ → List ℕ
name_part rest = before_first (λ b. b == 47) rest

abbrev pub sub_part : List ℕ → List ℕ
sub_part rest = after_first (λ b. b == 47) rest

-- nothing stands behind the first `/`
abbrev pub has_empty_sub : List ℕ → Bool
has_empty_sub rest = length rest == length (name_part rest) + 1

abbrev pub role_named : Option RoleName → List ℕ → List ℕ → Role
role_named None sub spelled = Other spelled
role_named (Some name) sub spelled = Known name sub spelled

-- the role of an element in which `rest` stands where these names may stand
abbrev pub role_behind : List Named → List ℕ → List ℕ → Role
role_behind names rest spelled =
    if has_empty_sub rest then Other spelled else role_named (named names (name_part rest)) (sub_part rest) spelled

abbrev pub begins : List ℕ → List ℕ → Bool
begins prefix element = starts_with nat_eq element prefix

-- the names of the family whose prefix begins the element, and what follows it; without a prefix, those of the context
abbrev pub split_prefix : List ℕ → List Named × List ℕ
split_prefix element =
    if begins context_prefix element then (context_names, drop (length context_prefix) element)
    else (if begins system_prefix element then (system_names, drop (length system_prefix) element)
    else (if begins institution_prefix element then (institution_names, drop (length institution_prefix) element)
    else (context_names, element)))

-- the role of an element
abbrev pub role_of : List ℕ → Role
role_of element = role_behind (split_prefix element).0 (split_prefix element).1 element

-- the roles that the text lists, in order
abbrev pub roles_of : List ℕ → List Role
roles_of text = map role_of (elements_of text)

abbrev pub spelled_of : Role → List ℕ
spelled_of (Known name sub spelled) = spelled
spelled_of (Other spelled) = spelled

-- the spellings, with a comma between each two
abbrev pub printed_of : List Role → List ℕ
printed_of roles = join_by spelled_of (codes ",") roles

-- the list has the same reading when it is printed: so it is what some text lists
abbrev pub IsReadBack : List Role → Type 0
IsReadBack roles = roles_of (printed_of roles) ≡ roles

-- the role has this name, with a sub-role or without
abbrev pub IsNamed : RoleName → Role → Type 0
IsNamed name (Known known sub spelled) = known ≡ name
IsNamed name (Other spelled) = ⊥
