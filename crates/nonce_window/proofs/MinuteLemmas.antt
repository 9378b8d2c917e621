-- What the tree of a minute tells.
use Rattle.std.proofs.Common.{◌≡◌, ℕ, Bool, true, false, ◌&&◌, ◌||◌, ◌==◌, List, [], ◌∷◌, ◌++◌, map, nat_eq, refl, sym, ap, ◌∙◌, Some, None, bytes_eq, is_eq}
use Rattle.std.specs.Bool.{⊤}
use Rattle.std.specs.Cmp.Lexicographic.{slice_cmp, bytes_decides}
use Rattle.std.specs.List.{list_any, AllByRecursion}
use Rattle.std.specs.List.Sorted.{IsStrictlySortedBy}
use Rattle.std.specs.Map.{keys_of, lookup, set_value, IsKeyTest}
use Rattle.std.specs.BTreeMap.{insert_entry, is_at}
use Rattle.std.specs.Ordering.{nat_cmp, eq_by_cmp}
use Rattle.std.specs.String.{string_bytes, string_cmp}
use Rattle.std.specs.declared.alloc.Global.{Global}
use Rattle.std.specs.declared.string.String.{String}
use Rattle.std.proofs.lemmas.Map.Text.{is_eq-slice_cmp}
use Rattle.std.proofs.lemmas.Map.Keys.{IsDistinct-from_sorted}
use Rattle.lti_machine.specs.Nonces.{same_stamp}
use Rattle.nonce_window.specs.Added.{IsAdded}
use Rattle.nonce_window.specs.Minutes.{stamps_at, stamps_of}
use Rattle.nonce_window.proofs.AddedLemmas.{added-map, added-changed, added-new}
use Rattle.nonce_window.proofs.KeyedLemmas.{found_or, any_found, changed, inserted}

abbrev pub Texts : Type 0
Texts = List (String Global × List ℕ)

-- the text is this one
abbrev pub is_text : List ℕ → String Global → Bool
is_text nonce = is_at (λ k. slice_cmp nat_cmp nonce (string_bytes k))

text_key : (nonce : List ℕ) → IsKeyTest (eq_by_cmp string_cmp) (is_text nonce)
text_key nonce x y is =
    let bytes : nonce ≡ string_bytes x = (bytes_decides nonce (string_bytes x)).0 (sym (is_eq-slice_cmp nonce (string_bytes x)) ∙ is) in
    ap (λ b. is_eq (slice_cmp nat_cmp b (string_bytes y))) bytes

any_at : (second : ℕ) (nonce text : List ℕ) (seconds : List ℕ) (b : Bool) → bytes_eq nonce text ≡ b → list_any (same_stamp (record { timestamp = second; nonce = nonce })) (map (λ s. record { timestamp = s; nonce = text }) seconds) ≡ (b && list_any (nat_eq second) seconds)
any_at second nonce text [] true is = refl
any_at second nonce text [] false is = refl
any_at second nonce text (s ∷ seconds) b is =
    (λ i. (second == s && is i) || any_at second nonce text seconds b is i) ∙ spread (second == s) b (list_any (nat_eq second) seconds)
  where
    spread : (a b c : Bool) → ((a && b) || (b && c)) ≡ (b && (a || c))
    spread true true c = refl
    spread false true c = refl
    spread true false c = refl
    spread false false c = refl

all_true : (es : Texts) → AllByRecursion (λ _. ⊤) es
all_true [] = tt
all_true (e ∷ es) = (tt, all_true es)

-- a stamp is in the minute where its second is among those of its nonce
pub any_stamps : (es : Texts) (second : ℕ) (nonce : List ℕ) → IsStrictlySortedBy string_cmp (keys_of es) → list_any (same_stamp (record { timestamp = second; nonce = nonce })) (stamps_of es) ≡ found_or false (list_any (nat_eq second)) (lookup (is_text nonce) es)
any_stamps es second nonce ordered =
    any_found (eq_by_cmp string_cmp) (is_text nonce) (text_key nonce) (λ _. ⊤) stamps_at (same_stamp (record { timestamp = second; nonce = nonce })) (list_any (nat_eq second))
    (λ e _ other. any_at second nonce (string_bytes e.0) e.1 false (sym (is_eq-slice_cmp nonce (string_bytes e.0)) ∙ other))
    (λ e _ same. any_at second nonce (string_bytes e.0) e.1 true (sym (is_eq-slice_cmp nonce (string_bytes e.0)) ∙ same))
    es (all_true es) (IsDistinct-from_sorted string_cmp (keys_of es) ordered)

-- a nonce has one more second
pub stamps_changed : (es fs : Texts) (seconds more : List ℕ) (second : ℕ) (nonce : List ℕ) → lookup (is_text nonce) es ≡ Some seconds → fs ≡ set_value (is_text nonce) es more → IsAdded seconds second more → IsAdded (stamps_of es) (record { timestamp = second; nonce = nonce }) (stamps_of fs)
stamps_changed es fs seconds more second nonce found set added =
    let change = changed (is_text nonce) es seconds more found in
    let text : string_bytes change.at ≡ nonce = sym ((bytes_decides nonce (string_bytes change.at)).0 (sym (is_eq-slice_cmp nonce (string_bytes change.at)) ∙ change.passes)) in
    let inner = added-map (λ s. record { timestamp = s; nonce = string_bytes change.at }) seconds more second added in
    added-changed stamps_at es fs change.front change.back (change.at, seconds) (change.at, more) (record { timestamp = second; nonce = nonce }) change.was (set ∙ change.is)
    (record { front = inner.front; back = inner.back; was = inner.was; is = inner.is ∙ (λ i. inner.front ++ record { timestamp = second; nonce = text i } ∷ inner.back) })

-- a nonce comes in with its first second
pub stamps_new : (es fs : Texts) (key : String Global) (seconds : List ℕ) (second : ℕ) (nonce : List ℕ) → string_bytes key ≡ nonce → lookup (is_text nonce) es ≡ None → fs ≡ insert_entry string_cmp es key seconds → IsAdded [] second seconds → IsAdded (stamps_of es) (record { timestamp = second; nonce = nonce }) (stamps_of fs)
stamps_new es fs key seconds second nonce text none put added =
    let entry = inserted string_cmp es key seconds ((λ i. lookup (is_text (text i)) es) ∙ none) in
    let inner = added-map (λ s. record { timestamp = s; nonce = string_bytes key }) [] seconds second added in
    added-new stamps_at es fs entry.front entry.back (key, seconds) (record { timestamp = second; nonce = nonce }) entry.was (put ∙ entry.is)
    (record { front = inner.front; back = inner.back; was = inner.was; is = inner.is ∙ (λ i. inner.front ++ record { timestamp = second; nonce = text i } ∷ inner.back) })
