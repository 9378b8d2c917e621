-- Base strings and signatures are unique.
use Rattle.std.proofs.Common.{◌≡◌, ◌↔◌, IsTrue, subst, nat_eq, ℕ, Bool, List, sym, ap, ◌∙◌}
use Rattle.std.specs.Cmp.Lexicographic.{pointwise, bytes_decides}
use Rattle.lti_outside.specs.declared.pairs.Pair.{Pair}
use Rattle.oauth_text.proofs.NormalLemmas.{normal_once}
use Rattle.oauth_sign.specs.Signature.{IsBaseString, IsSignature, base_text, signature_text}

-- a method, a URI and parameters have at most one base string
pub base_once : (method uri : List ℕ) (ps : List Pair) (t u : List ℕ) → IsBaseString method uri ps t → IsBaseString method uri ps u → u ≡ t
base_once method uri ps t u a b =
    b.is ∙ ap (base_text method uri) (normal_once ps a.normal b.normal a.normal_of b.normal_of) ∙ sym a.is

-- there is at most one signature
pub signature_once : (method uri : List ℕ) (ps : List Pair) (secret token_secret t u : List ℕ) → IsSignature method uri ps secret token_secret t → IsSignature method uri ps secret token_secret u → u ≡ t
signature_once method uri ps secret token_secret t u a b =
    b.is ∙ ap (λ base. signature_text base secret token_secret) (base_once method uri ps a.base b.base a.base_of b.base_of) ∙ sym a.is

-- a text is the signature exactly where it equals the one that was made
pub signature_tested : (method uri : List ℕ) (ps : List Pair) (secret token_secret t sent : List ℕ) (b : Bool) → b ≡ pointwise nat_eq t sent → IsSignature method uri ps secret token_secret t → IsTrue b ↔ IsSignature method uri ps secret token_secret sent
signature_tested method uri ps secret token_secret t sent b tested is = (
  λ so. subst (λ u. IsSignature method uri ps secret token_secret u) ((bytes_decides t sent).0 (sym tested ∙ so)) is,
  λ other. tested ∙ (bytes_decides t sent).1 (sym (signature_once method uri ps secret token_secret t sent is other)),
)
