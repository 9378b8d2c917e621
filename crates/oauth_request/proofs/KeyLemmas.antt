-- Keys and their secrets.
use Rattle.std.proofs.Common.{◌≡◌, ℕ, ◌+◌, ◌<◌, ◌≤◌, Bool, true, false, cond, List, [], ◌∷◌, ◌++◌, length, get_or, take, drop, bytes_eq, refl, ap, subst, Some, None, arith}
use Rattle.std.specs.Prelude.{find, All}
use Rattle.std.proofs.lemmas.Slice.Eq.{bytes_eq-Decides}
use Rattle.std.proofs.lemmas.List.{drop_more, take_more}
use Rattle.std.proofs.lemmas.List.Elements.{All-head, All-tail, All-append}
use Rattle.lti_outside.specs.declared.pairs.Pair.{Pair}
use Rattle.oauth_request.specs.Secret.{AreShort, key_fault, or_later, first_key_fault}
use Rattle.oauth_request.specs.declared.keys.KeysFault.{KeysFault}

found_here : {X : Type 0} (P : X → Type 0) (test : X → Bool) (y : X) (ys : List X) (x : X) (b : Bool) → test y ≡ b → P y → (Some x ≡ find test ys → P x × (test x ≡ true))
    → Some x ≡ cond b (Some y) (find test ys) → P x × (test x ≡ true)
found_here {X = X} P test y ys x true passes here later is = let same : y ≡ x = cc in (subst P same here, subst (λ (z : X). test z ≡ true) same passes)
found_here P test y ys x false fails here later is = later is

-- what is found passes the test, and what holds of each holds of it
pub found : {X : Type 0} (P : X → Type 0) (test : X → Bool) (xs : List X) (x : X) → All P xs → Some x ≡ find test xs → P x × (test x ≡ true)
found P test [] x all is = absurd (cc)
found P test (y ∷ ys) x all is = found_here P test y ys x (test y) refl (All-head P y ys all) (found P test ys x (All-tail P y ys all)) is

-- a key that is found is short
pub short_key : (keys : List Pair) (pair : Pair) (key : List ℕ) → AreShort keys → Some pair ≡ find (λ (p : Pair). bytes_eq p.name key) keys
    → (0 < length key) × (length key ≤ 255)
short_key keys pair key short is =
    let both = found (λ (p : Pair). (0 < length p.name) × (length p.name ≤ 255)) (λ (p : Pair). bytes_eq p.name key) keys pair short is in
    let same : pair.name ≡ key = (bytes_eq-Decides pair.name key).0 both.1 in
    subst (λ (name : List ℕ). (0 < length name) × (length name ≤ 255)) same both.0

-- one pair that isn't bad
pub one_more : (list : List Pair) (i : ℕ) (pair : Pair) → i < length list → pair ≡ get_or list i pair → key_fault (take i list) pair ≡ None
    → first_key_fault (take i list) (drop i list) ≡ first_key_fault (take (i + 1) list) (drop (i + 1) list)
one_more list i pair within is fine =
    rw (drop_more list i pair within, take_more list i pair within, ← is) (ap (λ o. or_later o (first_key_fault (take i list ++ pair ∷ []) (drop (i + 1) list))) fine)

-- one pair that is bad
pub bad_here : (list : List Pair) (i : ℕ) (pair : Pair) (fault : KeysFault) → i < length list → pair ≡ get_or list i pair → key_fault (take i list) pair ≡ Some fault
    → first_key_fault (take i list) (drop i list) ≡ Some fault
bad_here list i pair fault within is bad =
    rw (drop_more list i pair within, ← is) (ap (λ o. or_later o (first_key_fault (take i list ++ pair ∷ []) (drop (i + 1) list))) bad)

pub short_more : (list : List Pair) (i : ℕ) (pair : Pair) → i < length list → pair ≡ get_or list i pair → AreShort (take i list)
    → (0 < length pair.name) × (length pair.name ≤ 255) → AreShort (take (i + 1) list)
short_more list i pair within is before short =
    rw (take_more list i pair within, ← is) (All-append (λ (p : Pair). (0 < length p.name) × (length p.name ≤ 255)) (take i list) (pair ∷ []) before (one short))
  where
    one : (0 < length pair.name) × (length pair.name ≤ 255) → AreShort (pair ∷ [])
    one so = λ k d small. let first : k ≡ 0 = omega arith in rw first so

pub AreShort-none : AreShort []
AreShort-none = λ k d small. absurd (omega (arith, small))
