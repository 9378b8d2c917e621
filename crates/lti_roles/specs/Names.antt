-- The names of roles with their texts (LTI 1.1.1, appendix A).
use Rattle.std.specs.Prelude.{ℕ, List, [], ◌∷◌, codes}
use Rattle.lti_roles.specs.declared.names.RoleName.{RoleName}
use Rattle.lti_roles.specs.declared.names.RoleName.TheVariants.{Context, System, Institution}
use Rattle.lti_roles.specs.declared.names.ContextRole.TheVariants as context
use Rattle.lti_roles.specs.declared.names.SystemRole.TheVariants as system
use Rattle.lti_roles.specs.declared.names.InstitutionRole.TheVariants as institution

-- a text with the role that it names
abbrev pub Named : Type 0
Named = List ℕ × RoleName

-- the prefixes of the three families (sections A.2, A.1.2 and A.1.3)
abbrev pub context_prefix : List ℕ
context_prefix = codes "urn:lti:role:ims/lis/"

abbrev pub system_prefix : List ℕ
system_prefix = codes "urn:lti:sysrole:ims/lis/"

abbrev pub institution_prefix : List ℕ
institution_prefix = codes "urn:lti:instrole:ims/lis/"

-- the context roles (section A.2)
abbrev pub context_names : List Named
context_names =
    (codes "Learner", Context context.Learner)
    ∷ (codes "Instructor", Context context.Instructor)
    ∷ (codes "ContentDeveloper", Context context.ContentDeveloper)
    ∷ (codes "Member", Context context.Member)
    ∷ (codes "Manager", Context context.Manager)
    ∷ (codes "Mentor", Context context.Mentor)
    ∷ (codes "Administrator", Context context.Administrator)
    ∷ (codes "TeachingAssistant", Context context.TeachingAssistant)
    ∷ []

-- the system roles (section A.1.2)
abbrev pub system_names : List Named
system_names =
    (codes "SysAdmin", System system.SysAdmin)
    ∷ (codes "SysSupport", System system.SysSupport)
    ∷ (codes "Creator", System system.Creator)
    ∷ (codes "AccountAdmin", System system.AccountAdmin)
    ∷ (codes "User", System system.User)
    ∷ (codes "Administrator", System system.Administrator)
    ∷ (codes "None", System system.None)
    ∷ []

-- the institution roles (section A.1.3)
abbrev pub institution_names : List Named
institution_names =
    (codes "Student", Institution institution.Student)
    ∷ (codes "Faculty", Institution institution.Faculty)
    ∷ (codes "Member", Institution institution.Member)
    ∷ (codes "Learner", Institution institution.Learner)
    ∷ (codes "Instructor", Institution institution.Instructor)
    ∷ (codes "Mentor", Institution institution.Mentor)
    ∷ (codes "Staff", Institution institution.Staff)
    ∷ (codes "Alumni", Institution institution.Alumni)
    ∷ (codes "ProspectiveStudent", Institution institution.ProspectiveStudent)
    ∷ (codes "Guest", Institution institution.Guest)
    ∷ (codes "Other", Institution institution.Other)
    ∷ (codes "Administrator", Institution institution.Administrator)
    ∷ (codes "Observer", Institution institution.Observer)
    ∷ (codes "None", Institution institution.None)
    ∷ []
