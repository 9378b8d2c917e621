-- What holds of all texts.
use Rattle.std.specs.Prelude.{◌≡◌, ℕ, true, List, [], ◌∷◌, ◌++◌}
use Rattle.std.specs.List.{AllByRecursion}
use Rattle.lti_roles.specs.declared.role.Role.TheVariants.{Known}
use Rattle.lti_roles.specs.Names.{Named, context_prefix, system_prefix, institution_prefix, context_names, system_names, institution_names}
use Rattle.lti_roles.specs.Elements.{is_nonempty}
use Rattle.lti_roles.specs.Roles.{role_of, roles_of, IsReadBack}

-- reading what was printed gives the same roles
abbrev pub PrintedIsRead : Type 0
PrintedIsRead = (text : List ℕ) → IsReadBack (roles_of text)

-- behind this prefix the row's text is read as its role, and so it is before `/` and a sub-role
pub record IsRead (prefix : List ℕ) (row : Named) : Type 0 where
  pub alone : role_of (prefix ++ row.0) ≡ Known row.1 [] (prefix ++ row.0)
  pub with_sub : (sub : List ℕ) → is_nonempty sub ≡ true
      → role_of (prefix ++ (row.0 ++ 47 ∷ sub)) ≡ Known row.1 sub (prefix ++ (row.0 ++ 47 ∷ sub))

abbrev pub AreRead : List ℕ → List Named → Type 0
AreRead prefix names = AllByRecursion (IsRead prefix) names

-- each name of the vocabulary is read as its role behind its family's prefix, and a context role's also alone
pub record NamesAreRead : Type 0 where
  pub context : AreRead context_prefix context_names
  pub short : AreRead [] context_names
  pub system : AreRead system_prefix system_names
  pub institution : AreRead institution_prefix institution_names
