-- What follows a prefix.
use Rattle.std.proofs.Common.{◌≡◌, ℕ, true, false, List, length, drop, Option, None, Some, MatchOption, Bor, sym, ap, ◌∙◌, subst}
use Rattle.std.specs.Str.{IsCharBoundary}
use Rattle.std.specs.Str.Pattern.{FindsTextPrefix, StripsPrefix}
use Rattle.std.proofs.lemmas.Str.Pattern.{starts_text}
use Rattle.lti_roles.specs.Roles.{begins}

-- the clause of `strip_prefix`, in the definition's words
pub behind_is : (prefix element : List ℕ) (r : Option (Bor (List ℕ)))
    → MatchOption r (FindsTextPrefix prefix element None) (λ x. StripsPrefix (FindsTextPrefix prefix) element x.now)
    → MatchOption r (begins prefix element ≡ false) (λ rest. (begins prefix element ≡ true) × (rest.now ≡ drop (length prefix) element))
behind_is prefix element None lacks = sym (starts_text false prefix element lacks)
behind_is prefix element (Some rest) (len, found, is, fits) = (
  sym (starts_text true prefix element (len, found, subst (IsCharBoundary element) (sym found.0) found.2)),
  is ∙ ap (λ n. drop n element) found.0,
)
