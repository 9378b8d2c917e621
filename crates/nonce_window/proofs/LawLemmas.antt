-- The laws of forgetting, and of how many nonces are kept.
use Rattle.std.proofs.Common.{◌≡◌, ◌≤◌, ◌<◌, max, ℕ, Bool, true, false, true≢false, ◌&&◌, List, [], ◌∷◌, ◌++◌, length, filter, refl, sym, ap, subst, ◌∙◌, arith, append_assoc, append-nil, bytes_eq, cond}
use Rattle.std.specs.Cmp.{first_so, second_so}
use Rattle.std.proofs.lemmas.Bool.{cond_both, false_from_ne_true}
use Rattle.lti_machine.specs.declared.entry.Entry.{Entry}
use Rattle.lti_machine.specs.Nonces.{stamp_of, add_stamp, is_of_key, is_inside, is_live, live}
use Rattle.lti_machine.proofs.LiveLemmas.{is_of_key_parts}
use Rattle.nonce_window.specs.Laws.{ForgottenStaysOutside, ForgettingChangesNoVerdict, UnsignedIsHeld, AreAdmitted, LiveIsBounded, KeptIsBounded, HoldsAlike, KnowsUsed}
use Rattle.lti_machine.specs.Rules.{high}
use Rattle.lti_machine.proofs.UsedLemmas.{live_from_used, used_from_live, used_later}
use Rattle.lti_machine.proofs.SummaryLemmas.{alike}
use Rattle.nonce_window.proofs.LaterLemmas.{still, still-earlier, live-cons_same, live-cons_out, length-live_later}
use Rattle.nonce_window.proofs.PushLemmas.{inside_is_still, stands-live, live-push, length-live_push}
use Rattle.nonce_window.proofs.HeldLemmas.{same_verdict, new_parts}

pub forgotten_stays_outside : ForgottenStaysOutside
forgotten_stays_outside entries key stamp now later there gone h =
    false_from_ne_true (is_inside stamp.timestamp later) (λ inside.
    let here = still-earlier now later stamp h (inside_is_still stamp later inside) in
    true≢false (sym there ∙ stands-live entries key now stamp here ∙ gone))

-- ---- what keeps the live entries

module _ (keeps : Entry → Bool) (now : ℕ) (each : (entry : Entry) → is_live entry.key now entry ≡ true → keeps entry ≡ true) where
  -- an entry that is left out is live for no key later
  left_out : (e : Entry) (key : List ℕ) (later : ℕ) → now ≤ later → keeps e ≡ false → is_live key later e ≡ false
  left_out e key later h out =
      false_from_ne_true (is_live key later e) (λ lives.
      let of_key = first_so (is_of_key key e) (still later (stamp_of e)) lives in
      let owner = (is_of_key_parts key e of_key).1 in
      let own : is_of_key e.key e ≡ true = ap (λ k. is_of_key k e) owner ∙ of_key in
      let here = still-earlier now later (stamp_of e) h (second_so (is_of_key key e) (still later (stamp_of e)) lives) in
      true≢false (sym (each e (λ i. own i && here i)) ∙ out))

  pub live-filter : (es : List Entry) (key : List ℕ) (later : ℕ) → now ≤ later → live (filter keeps es) key later ≡ live es key later
  live-filter [] key later h = refl
  live-filter (e ∷ es) key later h =
      cond_both (keeps e) (e ∷ filter keeps es) (filter keeps es) (λ x. live x key later ≡ live (e ∷ es) key later)
      (λ _. live-cons_same e (filter keeps es) es key later (live-filter es key later h))
      (λ out. live-filter es key later h ∙ sym (live-cons_out e es key later (left_out e key later h out)))

pub forgetting_changes_no_verdict : ForgettingChangesNoVerdict
forgetting_changes_no_verdict entries keeps now each key stamp later limit h =
    same_verdict (filter keeps entries) entries key stamp later limit (live-filter keeps now each entries key later h)

-- ---- an entry without a nonce

pub unsigned_is_held : UnsignedIsHeld
unsigned_is_held window entries entry unsigned held = λ key.
    held key ∙ sym (live-push entries entry key window.high ∙ ap (λ b. cond (b && bytes_eq entry.key key && still window.high (stamp_of entry)) (add_stamp (stamp_of entry) (live entries key window.high)) (live entries key window.high)) unsigned)

-- ---- how many are kept

-- the moments of admitted entries are at most the last one
admitted_le : (limit now high : ℕ) (held entries : List Entry) → AreAdmitted limit now high held entries → high ≤ now
unfolding AreAdmitted
admitted_le limit now high held [] admitted = admitted
admitted_le limit now high held (e ∷ es) admitted = omega (arith, admitted.0, admitted_le limit now e.moment (held ++ e ∷ []) es admitted.2)

pub live_is_bounded : LiveIsBounded
unfolding AreAdmitted
live_is_bounded limit now high held [] admitted key =
    let same = ap (λ es. length (live es key now)) (append-nil held) in
    omega (arith, same)
live_is_bounded limit now high held (e ∷ es) admitted key =
    let behind = admitted_le limit now e.moment (held ++ e ∷ []) es admitted.2 in
    let one = length-live_push held e key now (max limit (length (live held key now))) (omega arith)
    (λ _ owner.
    let below = (new_parts held e.key (stamp_of e) e.moment limit admitted.1).below in
    let at_key = subst (λ k. length (live held k e.moment) < limit) owner below in
    omega (arith, at_key, length-live_later held key e.moment now behind)) in
    let rest = live_is_bounded limit now e.moment (held ++ e ∷ []) es admitted.2 key in
    let same = ap (λ xs. length (live xs key now)) (append_assoc held (e ∷ []) es) in
    omega (arith, one, rest, same)

pub kept_is_bounded : KeptIsBounded
kept_is_bounded window high loaded admitted held are_admitted key count counts =
    omega (arith, counts (loaded ++ admitted) held, live_is_bounded window.limit window.high high loaded admitted are_admitted key)

-- ---- other lists that it holds

pub holds_alike : HoldsAlike
holds_alike window a b same h held = λ key. held key ∙ live_from_used a b window.high (used_later a b (high a) window.high h (alike a b same).useds) key

pub knows_used : KnowsUsed
knows_used window entries now held h = used_later window.known entries window.high now h (used_from_live window.known entries window.high held)
