-- The first condition that holds, where conditions are joined.
use Rattle.std.proofs.Common.{◌≡◌, ℕ, Bool, true, false, List, [], ◌∷◌, ◌++◌, refl, sym, ap, ◌∙◌, Some, None, not, ◌&&◌, bytes_eq}
use Rattle.std.specs.List.{list_any}
use Rattle.lti_outside.specs.declared.pairs.Pair.{Pair}
use Rattle.base64.specs.Engines.{standard}
use Rattle.base64.specs.GeneralPurpose.{encode_of}
use Rattle.sha1.specs.Sha1.{sha1}
use Rattle.http_wire.specs.Conditions.{Condition, first_fault}
use Rattle.http_wire.proofs.ConditionLemmas.{first_later, first_here}
use Rattle.oauth_request.specs.Secret.{secret_in}
use Rattle.oauth_request.specs.Protocol.{values, key_name, body_hash_name}
use Rattle.oauth_request.specs.Conditions.{IsFirstOf, duplicate_conditions, missing_conditions, text_conditions, credential_conditions}
use Rattle.oauth_request.specs.Checked.{conditions_of}
use Rattle.oauth_request.specs.declared.faults.AuthFault.{AuthFault}
use Rattle.oauth_request.specs.declared.faults.AuthFault.TheVariants.{NoMemory, UnknownKey, BodyHashMismatch}

pub first_of : (cs : List (Condition AuthFault)) (fault : AuthFault) → first_fault cs ≡ Some fault → IsFirstOf cs fault
first_of cs NoMemory is = tt
first_of cs fault is = is

module _ (keys : List Pair) (field_limit : ℕ) (form : Bool) (body : List ℕ) (pairs : List Pair) where
  abbrev doubles : List (Condition AuthFault)
  doubles = duplicate_conditions pairs

  abbrev gaps : List (Condition AuthFault)
  gaps = missing_conditions form pairs

  abbrev texts : List (Condition AuthFault)
  texts = text_conditions field_limit pairs

  abbrev trust : List (Condition AuthFault)
  trust = credential_conditions keys form body pairs

  pub told : (fault : AuthFault) → first_fault (conditions_of keys field_limit form body pairs) ≡ Some fault → IsFirstOf (conditions_of keys field_limit form body pairs) fault
  told fault is = first_of (conditions_of keys field_limit form body pairs) fault is

  pub is_duplicated : (fault : AuthFault) → first_fault (duplicate_conditions pairs) ≡ Some fault → first_fault (conditions_of keys field_limit form body pairs) ≡ Some fault
  unfolding conditions_of
  is_duplicated fault is = first_here (doubles ++ gaps ++ texts) trust fault (first_here (doubles ++ gaps) texts fault (first_here doubles gaps fault is))

  pub lacks : (fault : AuthFault) → first_fault (duplicate_conditions pairs) ≡ None → first_fault (missing_conditions form pairs) ≡ Some fault
      → first_fault (conditions_of keys field_limit form body pairs) ≡ Some fault
  unfolding conditions_of
  lacks fault none is = first_here (doubles ++ gaps ++ texts) trust fault (first_here (doubles ++ gaps) texts fault (first_later doubles gaps none ∙ is))

  pub is_refused : (fault : AuthFault) → first_fault (duplicate_conditions pairs) ≡ None → first_fault (missing_conditions form pairs) ≡ None
      → first_fault (text_conditions field_limit pairs) ≡ Some fault → first_fault (conditions_of keys field_limit form body pairs) ≡ Some fault
  unfolding conditions_of
  is_refused fault none whole is =
      first_here (doubles ++ gaps ++ texts) trust fault (first_later (doubles ++ gaps) texts (first_later doubles gaps none ∙ whole) ∙ is)

  -- what is left are the key and the hash
  pub is_left : first_fault (duplicate_conditions pairs) ≡ None → first_fault (missing_conditions form pairs) ≡ None → first_fault (text_conditions field_limit pairs) ≡ None
      → first_fault (conditions_of keys field_limit form body pairs) ≡ first_fault (credential_conditions keys form body pairs)
  unfolding conditions_of
  is_left none whole fine =
      first_later (doubles ++ gaps ++ texts) trust (first_later (doubles ++ gaps) texts (first_later doubles gaps none ∙ whole) ∙ fine)

-- a key without a secret
pub is_unknown : (keys : List Pair) (form : Bool) (body : List ℕ) (pairs : List Pair) (key : List ℕ) → values key_name pairs ≡ key ∷ [] → secret_in keys key ≡ None
    → first_fault (credential_conditions keys form body pairs) ≡ Some UnknownKey
unfolding credential_conditions
is_unknown keys form body pairs key stands none = rw (stands, none) refl

-- another hash stands than the one of this sum, where the body isn't a form
abbrev pub has_other : Bool → List ℕ → List Pair → Bool
has_other form sum pairs = not form && list_any (λ hash. not (bytes_eq hash (encode_of standard sum))) (values body_hash_name pairs)

has_other-sum : (form : Bool) (sum body : List ℕ) (pairs : List Pair) → (form ≡ false → sum ≡ sha1 body)
    → has_other form (sha1 body) pairs ≡ has_other form sum pairs
has_other-sum true sum body pairs is = refl
has_other-sum false sum body pairs is = ap (λ s. has_other false s pairs) (sym (is refl))

pub is_other : (keys : List Pair) (form : Bool) (body sum : List ℕ) (pairs : List Pair) (key secret : List ℕ) → values key_name pairs ≡ key ∷ [] → secret_in keys key ≡ Some secret
    → (form ≡ false → sum ≡ sha1 body) → has_other form sum pairs ≡ true
    → first_fault (credential_conditions keys form body pairs) ≡ Some BodyHashMismatch
unfolding credential_conditions
is_other keys form body sum pairs key secret stands known is other =
    let sent : has_other form (sha1 body) pairs ≡ true = has_other-sum form sum body pairs is ∙ other in
    rw (stands, known, sent) refl

-- a known key, and a form or the body's hash
pub is_fine : (keys : List Pair) (form : Bool) (body sum : List ℕ) (pairs : List Pair) (key secret : List ℕ) → values key_name pairs ≡ key ∷ [] → secret_in keys key ≡ Some secret
    → (form ≡ false → sum ≡ sha1 body) → has_other form sum pairs ≡ false
    → first_fault (credential_conditions keys form body pairs) ≡ None
unfolding credential_conditions
is_fine keys form body sum pairs key secret stands known is same =
    let sent : has_other form (sha1 body) pairs ≡ false = has_other-sum form sum body pairs is ∙ same in
    rw (stands, known, sent) refl
