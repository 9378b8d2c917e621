-- Each name of the vocabulary is read as its role.
use Rattle.std.proofs.Common.{◌≡◌, ℕ, ◌+◌, ◌==◌, true, false, List, [], ◌∷◌, ◌++◌, length, take, drop, map, Option, Some, refl, sym, ap, ◌∙◌, arith, true≢false, length-append, append_assoc}
use Rattle.std.specs.List.{position_or_len}
use Rattle.std.proofs.lemmas.Bool.{cond-false, ne_eqb}
use Rattle.std.proofs.lemmas.List.{take_at, drop_at}
use Rattle.lti_roles.specs.declared.names.RoleName.{RoleName}
use Rattle.lti_roles.specs.declared.role.Role.{Role}
use Rattle.lti_roles.specs.declared.role.Role.TheVariants.{Known, Other}
use Rattle.lti_roles.specs.Names.{Named, context_prefix, system_prefix, institution_prefix, context_names, system_names, institution_names}
use Rattle.lti_roles.specs.Elements.{is_nonempty}
use Rattle.lti_roles.specs.Roles.{named, name_part, sub_part, has_empty_sub, role_named, role_behind, split_prefix, role_of}
use Rattle.lti_roles.specs.Laws.{IsRead, AreRead, NamesAreRead}

-- ---- a name with a sub-role

-- the first `/` stands behind the name, whatever follows
abbrev IsCutBehind : List ℕ → Type 0
IsCutBehind name = (sub : List ℕ) → position_or_len (λ b. b == 47) (name ++ 47 ∷ sub) ≡ length name

name_is : (name sub : List ℕ) → IsCutBehind name → name_part (name ++ 47 ∷ sub) ≡ name
name_is name sub cut = ap (λ n. take n (name ++ 47 ∷ sub)) (cut sub) ∙ take_at name (47 ∷ sub) (length name) refl

sub_is : (name sub : List ℕ) → IsCutBehind name → sub_part (name ++ 47 ∷ sub) ≡ sub
sub_is name sub cut =
    ap (λ n. drop (n + 1) (name ++ 47 ∷ sub)) (cut sub)
    ∙ ap (drop (length name + 1)) (sym (append_assoc name (47 ∷ []) sub))
    ∙ drop_at (name ++ 47 ∷ []) sub (length name + 1) (length-append name (47 ∷ []))

sub_stands : (name sub : List ℕ) → IsCutBehind name → is_nonempty sub ≡ true → has_empty_sub (name ++ 47 ∷ sub) ≡ false
sub_stands name [] cut some = absurd (true≢false (sym some))
sub_stands name (b ∷ sub) cut some =
    ne_eqb (length (name ++ 47 ∷ b ∷ sub)) (length (name_part (name ++ 47 ∷ b ∷ sub)) + 1) (λ same.
    let text : length (name ++ 47 ∷ b ∷ sub) ≡ length name + length (47 ∷ b ∷ sub) = length-append name (47 ∷ b ∷ sub) in
    let front : length (name_part (name ++ 47 ∷ b ∷ sub)) ≡ length name = ap length (name_is name (b ∷ sub) cut) in
    absurd (omega arith))

-- ---- the rows of a table

-- what is computed of a row: its role, where its name begins, where it ends, and what the names give it
abbrev Row : Type 0
Row = Role × (List ℕ → List Named × List ℕ) × (List ℕ → ℕ) × Option RoleName

abbrev computed : List ℕ → List Named → Named → Row
computed prefix names row = (
  role_of (prefix ++ row.0),
  λ tail. split_prefix (prefix ++ (row.0 ++ tail)),
  λ sub. position_or_len (λ b. b == 47) (row.0 ++ 47 ∷ sub),
  named names row.0,
)

-- what it is to be
abbrev wanted : List ℕ → List Named → Named → Row
wanted prefix names row = (Known row.1 [] (prefix ++ row.0), λ tail. (names, row.0 ++ tail), λ sub. length row.0, Some row.1)

is_read : (prefix : List ℕ) (names : List Named) (row : Named) → computed prefix names row ≡ wanted prefix names row → IsRead prefix row
is_read prefix names row is = record {
  alone = ap (λ (r : Row). r.0) is;
  with_sub = λ sub some.
      let rest = row.0 ++ 47 ∷ sub in
      let spelled = prefix ++ rest in
      let cut : IsCutBehind row.0 = λ tail. ap (λ (r : Row). r.2 tail) is in
      ap (λ (r : Row). role_behind (r.1 (47 ∷ sub)).0 (r.1 (47 ∷ sub)).1 spelled) is
      ∙ cond-false (has_empty_sub rest) (Other spelled) (role_named (named names (name_part rest)) (sub_part rest) spelled) (sub_stands row.0 sub cut some)
      ∙ ap (λ name. role_named (named names name) (sub_part rest) spelled) (name_is row.0 sub cut)
      ∙ ap (λ s. role_named (named names row.0) s spelled) (sub_is row.0 sub cut)
      ∙ ap (λ (r : Row). role_named r.3 sub spelled) is;
}

abbrev first_or : Row → List Row → Row
first_or row [] = row
first_or row (first ∷ rows) = first

abbrev others : List Row → List Row
others [] = []
others (first ∷ rows) = rows

are_read : (prefix : List ℕ) (names rows : List Named) → map (computed prefix names) rows ≡ map (wanted prefix names) rows → AreRead prefix rows
are_read prefix names [] are = tt
are_read prefix names (row ∷ rows) are =
    (is_read prefix names row (ap (first_or (computed prefix names row)) are), are_read prefix names rows (ap others are))

-- each table by computing
pub names_are_read : NamesAreRead
names_are_read = record {
  context = are_read context_prefix context_names context_names refl;
  short = are_read [] context_names context_names refl;
  system = are_read system_prefix system_names system_names refl;
  institution = are_read institution_prefix institution_names institution_names refl;
}
