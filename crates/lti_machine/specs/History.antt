-- What a machine was asked, one call behind another, and what it replied.
use Rattle.std.specs.Prelude.{◌≡◌, ◌≢◌, ℕ, Bool, true, false, ◌&&◌, List, [], ◌∷◌, ◌++◌, Some, bytes_eq, ⊤}
use Rattle.std.specs.List.{list_any}
use Rattle.lti_machine.specs.Nonces.{stands, stamp_of_call}
use Rattle.lti_machine.specs.Rules.{decide, after, Answers, is_acceptance, is_issue}
use Rattle.lti_machine.specs.declared.call.Action.{Action}
use Rattle.lti_machine.specs.declared.call.Action.TheVariants.{Replace, Read, Delete}
use Rattle.lti_machine.specs.declared.call.Call.{Call}
use Rattle.lti_machine.specs.declared.entry.Entry.{Entry}
use Rattle.lti_machine.specs.declared.reply.Reply.{Reply}
use Rattle.lti_machine.specs.declared.reply.Reply.TheVariants as reply

-- a call and the reply to it; a history is a list of them
abbrev pub Member : Type 0
Member = Call × Reply

-- the entries behind a history: one more for each call that was accepted
abbrev pub after_all : List Entry → List Member → List Entry
after_all entries [] = entries
after_all entries (m ∷ ms) = after_all (after entries m.0 m.1) ms

-- an accepted call was told what the rules decide over these entries, with so many nonces a key
abbrev pub IsByRules : ℕ → List Entry → Member → Type 0
IsByRules window entries m = is_acceptance m.1 ≡ true → m.1 ≡ decide entries m.0 window

-- each accepted call of a history was told what the rules decide over the entries before it
abbrev pub AcceptsByRules : ℕ → List Entry → List Member → Type 0
AcceptsByRules window entries [] = ⊤
AcceptsByRules window entries (m ∷ ms) = IsByRules window entries m × AcceptsByRules window (after entries m.0 m.1) ms

-- the steps of a machine, one behind another, from one of its states to another
abbrev pub Leads : {S : Type 0} → (S → Call → Reply → S → Type 0) → S → List Member → S → Type 0
Leads step from [] to = to ≡ from
Leads {S} step from (m ∷ ms) to = (next : S) × step from m.0 m.1 next × Leads step next ms to

-- A machine goes by the rules: it has a list of entries, accepts what the rules decide over it, and adds an entry for each
-- call that it accepts.
pub record GoesByRules {S : Type 0} (window : ℕ) (entries_of : S → List Entry) (step : S → Call → Reply → S → Type 0) : Type 0 where
  pub accepts : (from next : S) (call : Call) (given : Reply) → step from call given next → is_acceptance given ≡ true → given ≡ decide (entries_of from) call window
  pub keeps : (from next : S) (call : Call) (given : Reply) → step from call given next → entries_of next ≡ after (entries_of from) call given

-- A step of whatever machine goes by the rules, seen by its list alone: what is accepted was told what they decide over the
-- list, which gains its entry. Of what isn't accepted nothing is asked but that the list stays.
abbrev pub KeepsToRules : ℕ → List Entry → Call → Reply → List Entry → Type 0
KeepsToRules window from call given to = IsByRules window from (call, given) × (to ≡ after from call given)

-- what such a machine was asked is a history by the rules, down to its entries
abbrev pub AnyGoesByRules : Type 0
AnyGoesByRules =
    (window : ℕ) (from to : List Entry) (told : List Member)
    → Leads (KeepsToRules window) from told to → AcceptsByRules window from told × (to ≡ after_all from told)

-- the step of the plain machine, whose state is its list
abbrev pub Decides : ℕ → List Entry → Call → Reply → List Entry → Type 0
Decides window from call given to = Answers (decide from call window) given × (to ≡ after from call given)

-- what the plain machine was asked is a history that goes by the rules, down to its entries
abbrev pub PlainGoesByRules : Type 0
PlainGoesByRules =
    (window : ℕ) (from to : List Entry) (told : List Member)
    → Leads (Decides window) from told to → AcceptsByRules window from told × (to ≡ after_all from told)

-- A signed call isn't accepted whose key, timestamp and nonce stand in an entry from which the history began (RFC 5849, section
-- 3.3), whatever was asked before it.
abbrev pub NoNonceThatStoodIsAccepted : Type 0
NoNonceThatStoodIsAccepted =
    (window : ℕ) (from : List Entry) (before behind : List Member) (m : Member)
    → AcceptsByRules window from (before ++ m ∷ behind)
    → is_issue m.0.action ≡ false → stands from m.0.key (stamp_of_call m.0) ≡ true
    → is_acceptance m.1 ≡ false

-- Nor is one whose key, timestamp and nonce are those of a call that was accepted before it in the history.
abbrev pub NoNonceIsAcceptedTwice : Type 0
NoNonceIsAcceptedTwice =
    (window : ℕ) (from : List Entry) (before between behind : List Member) (first second : Member)
    → AcceptsByRules window from (before ++ first ∷ (between ++ second ∷ behind))
    → is_acceptance first.1 ≡ true → first.0.nonce ≢ []
    → is_issue second.0.action ≡ false → second.0.key ≡ first.0.key → stamp_of_call second.0 ≡ stamp_of_call first.0
    → is_acceptance second.1 ≡ false

-- the action sets the grade of this id, or takes it away
abbrev pub is_change : List ℕ → Action → Bool
is_change id (Replace other (Some score)) = bytes_eq other id
is_change id (Delete other) = bytes_eq other id
is_change id _ = false

-- a call of this key was accepted that sets the grade of this id, or takes it away
abbrev pub changes : List ℕ → List ℕ → Member → Bool
changes key id m = is_acceptance m.1 && (bytes_eq m.0.key key && is_change id m.0.action)

-- A grade that was set is what an accepted call to read it is told, where no call between them in the history was accepted that
-- sets it or takes it away (LTI 1.1.1, section 6).
abbrev pub GradeIsTold : Type 0
GradeIsTold =
    (window : ℕ) (from : List Entry) (before between behind : List Member) (first second : Member) (id : List ℕ) (score : ℕ)
    → AcceptsByRules window from (before ++ first ∷ (between ++ second ∷ behind))
    → first.0.action ≡ Replace id (Some score) → first.1 ≡ reply.Graded
    → list_any (changes first.0.key id) between ≡ false
    → second.0.key ≡ first.0.key → second.0.action ≡ Read id → is_acceptance second.1 ≡ true
    → second.1 ≡ reply.GradeRead (Some score)
