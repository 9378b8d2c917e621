-- A stamp of a key whose hash has no place stands in no entry.
use Rattle.std.proofs.Common.{◌≡◌, ℕ, true≢false, true, false, cond, List, [], ◌∷◌, ◌++◌, refl, sym, ap, ◌∙◌, Option, Some, nat_eq, is_some}
use Rattle.std.specs.Cmp.{first_so, second_so}
use Rattle.std.proofs.lemmas.Bool.{cond_both, or_from, false_from_ne_true}
use Rattle.lti_machine.proofs.LiveLemmas.{same_from_test, is_of_key_parts}
use Rattle.lti_machine.specs.declared.entry.Entry.{Entry}
use Rattle.lti_machine.specs.Nonces.{Stamp, same_stamp, stamp_of, uses, stands, is_of_key}
use Rattle.lti_machine.specs.Places.{IsIndexed, hash_of}

pub stands-not_indexed : (place_of : ℕ → Option ℕ) (es : List Entry) (key : List ℕ) (stamp : Stamp) → IsIndexed place_of es → is_some (place_of (hash_of key stamp)) ≡ false → stands es key stamp ≡ false
unfolding IsIndexed
stands-not_indexed place_of [] key stamp indexed none = refl
stands-not_indexed place_of (e ∷ es) key stamp indexed none =
    or_from (uses key stamp e) (stands es key stamp)
    (false_from_ne_true (uses key stamp e) (λ used.
    let same : stamp ≡ stamp_of e = same_from_test stamp (stamp_of e) (second_so (is_of_key key e) (same_stamp stamp (stamp_of e)) used) in
    let key_is : e.key ≡ key = (is_of_key_parts key e (first_so (is_of_key key e) (same_stamp stamp (stamp_of e)) used)).1 in
    true≢false (sym indexed.0 ∙ ap (λ k. is_some (place_of (hash_of k (stamp_of e)))) key_is ∙ ap (λ s. is_some (place_of (hash_of key s))) (sym same) ∙ none)))
    (stands-not_indexed place_of es key stamp indexed.1 none)

-- one more place takes none away
pub is_some-placed : (before after : ℕ → Option ℕ) (hash place : ℕ) → ((q : ℕ) → after q ≡ cond (nat_eq hash q) (Some place) (before q)) → (q : ℕ) → is_some (before q) ≡ true → is_some (after q) ≡ true
is_some-placed before after hash place updated q there =
    ap is_some (updated q) ∙ cond_both (nat_eq hash q) (Some place) (before q) (λ o. is_some o ≡ true) (λ _. refl) (λ _. there)

-- what has more places has each entry's
pub IsIndexed-more : (before after : ℕ → Option ℕ) → ((hash : ℕ) → is_some (before hash) ≡ true → is_some (after hash) ≡ true) → (es : List Entry) → IsIndexed before es → IsIndexed after es
unfolding IsIndexed
IsIndexed-more before after more [] indexed = tt
IsIndexed-more before after more (e ∷ es) indexed = (more _ indexed.0, IsIndexed-more before after more es indexed.1)

pub IsIndexed-push : (place_of : ℕ → Option ℕ) (es : List Entry) (e : Entry) → IsIndexed place_of es → is_some (place_of (hash_of e.key (stamp_of e))) ≡ true → IsIndexed place_of (es ++ e ∷ [])
unfolding IsIndexed
IsIndexed-push place_of [] e indexed placed = (placed, tt)
IsIndexed-push place_of (x ∷ es) e indexed placed = (indexed.0, IsIndexed-push place_of es e indexed.1 placed)
