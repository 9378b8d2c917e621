-- What stands under the names of the protocol, by the places of the fields.
use Rattle.std.proofs.Common.{◌≡◌, ◌≢◌, ℕ, ◌+◌, ◌<◌, ◌≤◌, ◌==◌, Bool, true, false, cond, List, [], ◌∷◌, ◌++◌, length, map, drop, get_or, set, bytes_eq, refl, sym, ap, ◌∙◌, subst, arith, Some, None}
use Rattle.std.specs.Prelude.{codes, find, nat_eq, nat_lt, replicate, ⊤}
use Rattle.std.specs.List.{AllByRecursion, starts_with}
use Rattle.std.proofs.lemmas.Bool.Decides.{nat_tests}
use Rattle.std.proofs.lemmas.Grind.{get_or-set_at}
use Rattle.std.proofs.lemmas.List.{drop_more, drop_all, get_or-set_other, length-set}
use Rattle.std.proofs.lemmas.Slice.Eq.{bytes_eq-Decides}
use Rattle.lti_outside.specs.declared.pairs.Pair.{Pair}
use Rattle.http_wire.specs.Conditions.{Condition, first_fault}
use Rattle.http_wire.proofs.ConditionLemmas.{none_holds}
use Rattle.oauth_request.specs.Protocol.{key_name, method_name, timestamp_name, nonce_name, signature_name, version_name, token_name, body_hash_name, name_of, place_of, values}
use Rattle.oauth_request.specs.Conditions.{fields, is_duplicate, duplicate_conditions}
use Rattle.oauth_request.specs.Found.{Stands, found_at, AreFoundIn}
use Rattle.oauth_request.specs.declared.fields.Field.{Field}
use Rattle.oauth_request.specs.declared.fields.Field.TheVariants.{ConsumerKey, SignatureMethod, Timestamp, Nonce, Signature, Version, Token, BodyHash}
use Rattle.oauth_request.specs.declared.protocol.Found.{Found}
use Rattle.oauth_request.specs.declared.protocol.Found.TheVariants.{Absent}
use Rattle.oauth_request.specs.declared.protocol.Protocol.{Protocol}
use Rattle.oauth_request.specs.declared.faults.AuthFault.{AuthFault}
use Rattle.oauth_request.specs.declared.faults.AuthFault.TheVariants.{Duplicate}
use Rattle.oauth_request.proofs.KeyLemmas.{found}
use Rattle.oauth_request.proofs.ValueLemmas.{values-push}

-- what holds of all fields holds of each
each_field : (P : Field → Type 0) → AllByRecursion P fields → (f : Field) → P f
each_field P all ConsumerKey = all.0
each_field P all SignatureMethod = all.1.0
each_field P all Timestamp = all.1.1.0
each_field P all Nonce = all.1.1.1.0
each_field P all Signature = all.1.1.1.1.0
each_field P all Version = all.1.1.1.1.1.0
each_field P all Token = all.1.1.1.1.1.1.0
each_field P all BodyHash = all.1.1.1.1.1.1.1.0

-- each name begins with `oauth_`
all_prefixed : (f : Field) → starts_with nat_eq (name_of f) (codes "oauth_") ≡ true
unfolding key_name method_name timestamp_name nonce_name signature_name version_name token_name body_hash_name
all_prefixed ConsumerKey = refl
all_prefixed f = refl

-- so another text is none of them
pub not_prefixed : (name : List ℕ) → starts_with nat_eq name (codes "oauth_") ≡ false → (f : Field) → bytes_eq name (name_of f) ≡ false
not_prefixed name other f = by_test (bytes_eq name (name_of f)) refl
  where
    by_test : (b : Bool) → bytes_eq name (name_of f) ≡ b → b ≡ false
    by_test true same =
        absurd (let e = sym other ∙ ap (λ n. starts_with nat_eq n (codes "oauth_")) ((bytes_eq-Decides name (name_of f)).0 same) ∙ all_prefixed f in cc)
    by_test false differs = refl

-- the field that was found has the name
pub named_by : (name : List ℕ) (f : Field) → Some f ≡ find (λ field. bytes_eq name (name_of field)) fields → name ≡ name_of f
named_by name f is =
    (bytes_eq-Decides name (name_of f)).0 (found {X = Field} (λ _. ⊤) (λ field. bytes_eq name (name_of field)) fields f (λ k d small. tt) is).1

-- no name stands twice
pub not_duplicate : (pairs : List Pair) → first_fault (duplicate_conditions pairs) ≡ None → (f : Field) → nat_lt 1 (length (values (name_of f) pairs)) ≡ false
unfolding duplicate_conditions
not_duplicate pairs none = each_field (λ f. is_duplicate pairs f ≡ false) (none_holds (duplicate_conditions pairs) none)

-- the conditions from a place on
abbrev pub duplicates_from : List Pair → ℕ → List (Condition AuthFault)
duplicates_from pairs i = map (λ name. record { holds = is_duplicate pairs name; fault = Duplicate name }) (drop i fields)

pub duplicates_all : (pairs : List Pair) → first_fault (duplicate_conditions pairs) ≡ first_fault (duplicates_from pairs 0)
unfolding duplicate_conditions
duplicates_all pairs = refl

pub duplicates_next : (pairs : List Pair) (i : ℕ) (d : Field) (twice : Bool) → i < length fields → twice ≡ is_duplicate pairs (get_or fields i d)
    → first_fault (duplicates_from pairs i) ≡ cond twice (Some (Duplicate (get_or fields i d))) (first_fault (duplicates_from pairs (i + 1)))
duplicates_next pairs i d twice within tested = rw (drop_more fields i d within, tested) refl

pub duplicates_past : (pairs : List Pair) (i : ℕ) → length fields ≤ i → first_fault (duplicates_from pairs i) ≡ None
duplicates_past pairs i past = rw (drop_all i fields past) refl

-- names are the same where places are
same_name : (f g : Field) → bytes_eq (name_of f) (name_of g) ≡ (place_of f == place_of g)
unfolding key_name method_name timestamp_name nonce_name signature_name version_name token_name body_hash_name
same_name ConsumerKey ConsumerKey = refl
same_name SignatureMethod SignatureMethod = refl
same_name Timestamp Timestamp = refl
same_name Nonce Nonce = refl
same_name Signature Signature = refl
same_name Version Version = refl
same_name Token Token = refl
same_name BodyHash BodyHash = refl
same_name f g = refl

pub place_small : (f : Field) → place_of f < 8
place_small ConsumerKey = omega arith
place_small f = omega arith

equal_places : (m n : ℕ) → (m == n) ≡ true → n ≡ m
equal_places m n same = grind (arith, nat_tests)

other_places : (m n : ℕ) → (m == n) ≡ false → n ≢ m
other_places m n other = grind (arith, nat_tests)

-- nothing stands in no pairs
pub none_stand : (f : Field) → Stands (get_or (replicate 8 Absent) (place_of f) Absent) (values (name_of f) [])
unfolding values
none_stand ConsumerKey = refl
none_stand f = refl

module _ (protocol : Protocol) (pairs : List Pair) (pair : Pair) (are : AreFoundIn protocol pairs) where
  -- a pair of no name of the protocol
  pub other_added : ((f : Field) → bytes_eq pair.name (name_of f) ≡ false) → AreFoundIn protocol (pairs ++ pair ∷ [])
  other_added other = record { whole = are.whole; stand = λ f. rw (values-push (name_of f) pairs pair, other f) (are.stand f) }

  module _ (new : Protocol) (g : Field) (more : Found) (named : pair.name ≡ name_of g) (is : new.found ≡ set protocol.found (place_of g) more) (stands : Stands more (values (name_of g) pairs ++ pair.value ∷ [])) where
    tested : (f : Field) (same : Bool) → (place_of g == place_of f) ≡ same → bytes_eq pair.name (name_of f) ≡ same
    tested f same is_same = ap (λ n. bytes_eq n (name_of f)) named ∙ same_name g f ∙ is_same

    by_place : (f : Field) (same : Bool) → (place_of g == place_of f) ≡ same → Stands (found_at new f) (values (name_of f) (pairs ++ pair ∷ []))
    by_place f true same =
        let name : name_of g ≡ name_of f = (bytes_eq-Decides (name_of g) (name_of f)).0 (same_name g f ∙ same) in
        let got : found_at new f ≡ more
        = ap (λ xs. get_or xs (place_of f) Absent) is ∙ get_or-set_at protocol.found (place_of g) (place_of f) more Absent (equal_places (place_of g) (place_of f) same) (omega (arith, are.whole, place_small g)) in
        rw (values-push (name_of f) pairs pair, tested f true same, got) (subst (λ (n : List ℕ). Stands more (values n pairs ++ pair.value ∷ [])) name stands)
    by_place f false other =
        let got : found_at new f ≡ found_at protocol f
        = ap (λ xs. get_or xs (place_of f) Absent) is ∙ get_or-set_other protocol.found (place_of g) (place_of f) more Absent (other_places (place_of g) (place_of f) other) in
        rw (values-push (name_of f) pairs pair, tested f false other, got) (are.stand f)

    -- a pair of this name
    pub one_added : AreFoundIn new (pairs ++ pair ∷ [])
    one_added = record {
      whole = ap length is ∙ length-set protocol.found (place_of g) more ∙ are.whole;
      stand = λ f. by_place f (place_of g == place_of f) refl;
    }
