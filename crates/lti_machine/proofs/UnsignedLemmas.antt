-- A call without a nonce repeats none.
use Rattle.std.proofs.Common.{◌≡◌, ◌⊎◌, ℕ, not, ◌==◌, true, false, true≢false, List, [], ◌∷◌, length, refl, sym, ap, ◌∙◌, ⊎_elim}
use Rattle.std.specs.Cmp.{first_so, second_so}
use Rattle.std.proofs.lemmas.Bool.{or_from, false_from_ne_true}
use Rattle.lti_machine.proofs.LiveLemmas.{same_from_test, is_of_key_parts}
use Rattle.lti_machine.specs.declared.call.Call.{Call}
use Rattle.lti_machine.specs.declared.entry.Entry.{Entry}
use Rattle.lti_machine.specs.Nonces.{Stamp, same_stamp, stamp_of, stamp_of_call, uses, stands, is_of_key}
use Rattle.lti_machine.specs.Rules.{is_issue}
use Rattle.lti_machine.specs.Sound.{IsStamped, IsUnstamped}

unused : (key : List ℕ) (stamp : Stamp) (e : Entry) → stamp.nonce ≡ [] → uses key stamp e ≡ true → ⊥
unused key stamp e empty used =
    let signed = (is_of_key_parts key e (first_so (is_of_key key e) (same_stamp stamp (stamp_of e)) used)).0 in
    let same : stamp ≡ stamp_of e = same_from_test stamp (stamp_of e) (second_so (is_of_key key e) (same_stamp stamp (stamp_of e)) used) in
    true≢false (sym signed ∙ ap (λ s. not (length s.nonce == 0)) (sym same) ∙ ap (λ n. not (length n == 0)) empty)

-- an empty nonce is used up by no entry
pub stands-empty : (es : List Entry) (key : List ℕ) (stamp : Stamp) → stamp.nonce ≡ [] → stands es key stamp ≡ false
stands-empty [] key stamp empty = refl
stands-empty (e ∷ es) key stamp empty =
    or_from (uses key stamp e) (stands es key stamp)
    (false_from_ne_true (uses key stamp e) (unused key stamp e empty))
    (stands-empty es key stamp empty)

-- a sound call that is an operator's own has a stamp that stands nowhere
pub stands-operator : (es : List Entry) (call : Call) → is_issue call.action ≡ true → IsStamped call ⊎ IsUnstamped call → stands es call.key (stamp_of_call call) ≡ false
stands-operator es call issue stamp =
    ⊎_elim
    (λ stamped. absurd (true≢false (sym issue ∙ stamped.signed)))
    (λ unstamped. stands-empty es call.key (stamp_of_call call) unstamped.nonce)
    stamp
