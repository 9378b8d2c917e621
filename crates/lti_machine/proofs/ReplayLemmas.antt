-- A nonce that was accepted isn't accepted again.
use Rattle.std.proofs.Common.{◌≡◌, ◌≢◌, ℕ, Bool, true, false, true≢false, cond, not, ◌||◌, ◌==◌, List, [], ◌∷◌, ◌++◌, length, refl, sym, ap, ◌∙◌, arith, bytes_eq, nat_le}
use Rattle.std.specs.List.{list_any}
use Rattle.std.specs.Cmp.Lexicographic.{bytes_decides}
use Rattle.std.proofs.lemmas.Bool.{cond-true, cond-false, cond_both, and_from}
use Rattle.std.proofs.lemmas.List.Folds.{list_any-append}
use Rattle.std.proofs.lemmas.Bool.Decides.{nat_tests}
use Rattle.lti_machine.specs.Nonces.{Stamp, same_stamp, stamp_of, stamp_of_call, is_signed, is_of_key, uses, stands, is_inside, verdict, live}
use Rattle.lti_machine.specs.History.{Member, IsByRules, NoNonceThatStoodIsAccepted, NoNonceIsAcceptedTwice}
use Rattle.lti_machine.specs.Rules.{decide, after, entry_of, now_of, verdict_of, result, reply_by, is_acceptance, is_issue}
use Rattle.lti_machine.specs.declared.call.Call.{Call}
use Rattle.lti_machine.specs.declared.entry.Entry.{Entry}
use Rattle.lti_machine.specs.declared.reply.Reply.{Reply}
use Rattle.lti_machine.specs.declared.verdict.Verdict.{Verdict}
use Rattle.lti_machine.specs.declared.verdict.Verdict.TheVariants as nonce

false_from : (b : Bool) → (b ≡ true → ⊥) → b ≡ false
false_from true other = absurd (other refl)
false_from false other = refl

or_second : (a b : Bool) → b ≡ true → (a || b) ≡ true
or_second true b is = refl
or_second false b is = is

-- what stands goes on standing
stands_after : (entries : List Entry) (call : Call) (given : Reply) (key : List ℕ) (stamp : Stamp) → stands entries key stamp ≡ true → stands (after entries call given) key stamp ≡ true
stands_after entries call given key stamp there =
    let entry = entry_of call given (now_of entries call) in
    cond_both (is_acceptance given) (entries ++ entry ∷ []) entries (λ (x : List Entry). stands x key stamp ≡ true)
    (λ _. list_any-append (uses key stamp) entries (entry ∷ []) ∙ ap (λ (b : Bool). b || list_any (uses key stamp) (entry ∷ [])) there)
    (λ _. there)

-- no reply by the verdict on a stamp that stands is an acceptance
not_new : (entries : List Entry) (key : List ℕ) (stamp : Stamp) (now window : ℕ) (given : Reply) → stands entries key stamp ≡ true
    → is_acceptance (reply_by (verdict entries key stamp now window) now given) ≡ false
not_new entries key stamp now window given there =
    let full : Verdict = cond (nat_le window (length (live entries key now))) (nonce.WindowFull (length (live entries key now))) nonce.New in
    let used : Verdict = cond (stands entries key stamp) nonce.Used full in
    cond_both (not (is_inside stamp.timestamp now)) nonce.Outside used (λ (v : Verdict). is_acceptance (reply_by v now given) ≡ false)
    (λ _. refl)
    (λ _. ap (λ (v : Verdict). is_acceptance (reply_by v now given)) (cond-true (stands entries key stamp) nonce.Used full there))

-- a call whose stamp stands isn't accepted
refused : (window : ℕ) (entries : List Entry) (m : Member) → is_issue m.0.action ≡ false → stands entries m.0.key (stamp_of_call m.0) ≡ true
    → IsByRules window entries m → is_acceptance m.1 ≡ false
refused window entries (call, given) signed there by_rules =
    let now = now_of entries call in
    let decided : is_acceptance (decide entries call window) ≡ false =
    ap is_acceptance (cond-false (is_issue call.action) (result entries call) (reply_by (verdict_of entries call window) now (result entries call)) signed)
    ∙ not_new entries call.key (stamp_of_call call) now window (result entries call) there in
    false_from (is_acceptance given) (λ accepted. true≢false (sym accepted ∙ ap is_acceptance (by_rules accepted) ∙ decided))

has_bytes : (text : List ℕ) → text ≢ [] → not (length text == 0) ≡ true
has_bytes [] named = absurd (named refl)
has_bytes (byte ∷ text) named = let other : (length (byte ∷ text) == 0) ≡ false = grind (arith, nat_tests) in ap not other

-- an entry with a nonce uses up its own stamp
uses_own : (entry : Entry) → entry.nonce ≢ [] → uses entry.key (stamp_of entry) entry ≡ true
uses_own entry named =
    let number : (entry.timestamp == entry.timestamp) ≡ true = grind (arith, nat_tests) in
    and_from (is_of_key entry.key entry) (same_stamp (stamp_of entry) (stamp_of entry))
    (and_from (is_signed entry) (bytes_eq entry.key entry.key) (has_bytes entry.nonce named) ((bytes_decides entry.key entry.key).1 refl))
    (and_from (entry.timestamp == entry.timestamp) (bytes_eq entry.nonce entry.nonce) number ((bytes_decides entry.nonce entry.nonce).1 refl))

-- the stamp of an accepted call stands
accepted_stands : (entries : List Entry) (call : Call) (given : Reply) → is_acceptance given ≡ true → call.nonce ≢ [] → stands (after entries call given) call.key (stamp_of_call call) ≡ true
accepted_stands entries call given accepted named =
    let entry = entry_of call given (now_of entries call) in
    let key = call.key in
    let stamp = stamp_of_call call in
    let own : (uses key stamp entry || false) ≡ true = ap (λ (b : Bool). b || false) (uses_own entry named) in
    ap (λ (x : List Entry). stands x key stamp) (cond-true (is_acceptance given) (entries ++ entry ∷ []) entries accepted)
    ∙ list_any-append (uses key stamp) entries (entry ∷ [])
    ∙ or_second (list_any (uses key stamp) entries) (uses key stamp entry || false) own

pub stood_refused : NoNonceThatStoodIsAccepted
stood_refused window from [] behind m goes signed there = refused window from m signed there goes.0
stood_refused window from (b ∷ before) behind m goes signed there =
    stood_refused window (after from b.0 b.1) before behind m goes.1 signed (stands_after from b.0 b.1 m.0.key (stamp_of_call m.0) there)

pub never_twice : NoNonceIsAcceptedTwice
never_twice window from [] between behind first second goes accepted named signed same_key same =
    stood_refused window (after from first.0 first.1) between behind second goes.1 signed
    (ap (λ (k : List ℕ). stands (after from first.0 first.1) k (stamp_of_call second.0)) same_key
    ∙ ap (λ (s : Stamp). stands (after from first.0 first.1) first.0.key s) same
    ∙ accepted_stands from first.0 first.1 accepted named)
never_twice window from (m ∷ before) between behind first second goes accepted named signed same_key same =
    never_twice window (after from m.0 m.1) before between behind first second goes.1 accepted named signed same_key same
