-- How the printed list grows by a role.
use Rattle.std.proofs.Common.{◌≡◌, ℕ, ◌+◌, ◌<◌, List, [], ◌∷◌, ◌++◌, length, take, get_or, codes, refl, sym, ap, ◌∙◌, append_assoc, append-nil}
use Rattle.std.specs.List.{flat_map}
use Rattle.std.proofs.lemmas.List.{take_more}
use Rattle.std.proofs.lemmas.List.Concat.{flat_map-append}
use Rattle.lti_roles.specs.declared.role.Role.{Role}
use Rattle.lti_roles.specs.Roles.{spelled_of, printed_of}

-- what stands before the next role
abbrev pub separator : List Role → List ℕ
separator [] = []
separator (role ∷ roles) = codes ","

abbrev pub next : Role → List ℕ
next role = codes "," ++ spelled_of role

-- a role more, with what stands before it
pub printed_more : (roles : List Role) (role : Role) → printed_of (roles ++ role ∷ []) ≡ (printed_of roles ++ separator roles) ++ spelled_of role
printed_more [] role = append-nil (spelled_of role)
printed_more (first ∷ roles) role =
    ap (λ l. spelled_of first ++ l) (flat_map-append next roles (role ∷ []) ∙ ap (λ l. flat_map next roles ++ l) (append-nil (next role)))
    ∙ sym (append_assoc (spelled_of first) (flat_map next roles) (next role))
    ∙ sym (append_assoc (spelled_of first ++ flat_map next roles) (codes ",") (spelled_of role))

pub separator_more : (roles : List Role) (role : Role) → codes "," ≡ separator (roles ++ role ∷ [])
separator_more [] role = refl
separator_more (first ∷ roles) role = refl

-- the step of a loop that prints the roles
pub printed_step : (roles : List Role) (i : ℕ) (role : Role) (text before printed : List ℕ) → i < length roles → role ≡ get_or roles i role
    → text ≡ printed_of (take i roles) → before ≡ separator (take i roles) → printed ≡ (text ++ before) ++ spelled_of role
    → (printed ≡ printed_of (take (i + 1) roles)) × (codes "," ≡ separator (take (i + 1) roles))
printed_step roles i role text before printed inside is so_far mark grown =
    let longer : take (i + 1) roles ≡ take i roles ++ role ∷ [] = take_more roles i role inside ∙ ap (λ r. take i roles ++ r ∷ []) (sym is) in (
      grown ∙ ap (λ l. (l ++ before) ++ spelled_of role) so_far ∙ ap (λ l. (printed_of (take i roles) ++ l) ++ spelled_of role) mark
          ∙ sym (printed_more (take i roles) role) ∙ ap printed_of (sym longer),
      separator_more (take i roles) role ∙ ap separator (sym longer),
    )
