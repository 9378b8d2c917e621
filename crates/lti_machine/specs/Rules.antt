-- The rules of the machine over the list of all that it accepted: the reply to a call, and the list after it.
-- They are this project's own; what they say of nonces is in Nonces, and of grades in Standings.
use Rattle.std.specs.Prelude.{◌≡◌, ℕ, ◌⊎◌, max, Bool, true, false, List, [], ◌∷◌, ◌++◌, Option, Some, None, if◌then◌else◌}
use Rattle.lti_machine.specs.Nonces.{verdict, stamp_of_call}
use Rattle.lti_machine.specs.Standings.{standing}
use Rattle.lti_machine.specs.declared.call.Call.{Call}
use Rattle.lti_machine.specs.declared.call.Action.{Action}
use Rattle.lti_machine.specs.declared.call.Action.TheVariants as action
use Rattle.lti_machine.specs.declared.entry.Entry.{Entry}
use Rattle.lti_machine.specs.declared.entry.Effect.{Effect}
use Rattle.lti_machine.specs.declared.entry.Effect.TheVariants as effect
use Rattle.lti_machine.specs.declared.reply.Reply.{Reply}
use Rattle.lti_machine.specs.declared.reply.Reply.TheVariants as reply
use Rattle.lti_machine.specs.declared.standing.Standing.{Standing}
use Rattle.lti_machine.specs.declared.standing.Standing.TheVariants as grade
use Rattle.lti_machine.specs.declared.verdict.Verdict.{Verdict}
use Rattle.lti_machine.specs.declared.verdict.Verdict.TheVariants as nonce

-- the greatest moment of the entries, or 0
abbrev pub high : List Entry → ℕ
high [] = 0
high (e ∷ es) = max e.moment (high es)

-- the moment that stands: the greater of the call's own and the greatest that was accepted
abbrev pub now_of : List Entry → Call → ℕ
now_of entries call = max call.moment (high entries)

-- what the list says of the call's nonce
abbrev pub verdict_of : List Entry → Call → ℕ → Verdict
verdict_of entries call window = verdict entries call.key (stamp_of_call call) (now_of entries call) window

-- the action is the operator's own, and has no nonce
abbrev pub is_issue : Action → Bool
is_issue (action.Issue id) = true
is_issue _ = false

-- the id whose grade the action asks for
abbrev pub id_of : Action → Option (List ℕ)
id_of action.Note = None
id_of (action.Launch link user sourced_id service) = None
id_of (action.Replace id score) = Some id
id_of (action.Read id) = Some id
id_of (action.Delete id) = Some id
id_of (action.Issue id) = Some id

-- how the id stands under a key, where there is one
abbrev pub standing_of : List Entry → List ℕ → Option (List ℕ) → Standing
standing_of entries key None = grade.Unknown
standing_of entries key (Some id) = standing entries key id

-- the reply to what is asked where its id stands so, and the nonce is new
abbrev pub result_of : Action → Standing → Reply
result_of action.Note standing = reply.Noted
result_of (action.Launch link user sourced_id service) standing = reply.Launched
result_of (action.Replace id score) grade.Unknown = reply.UnknownId
result_of (action.Replace id None) standing = reply.BadScore
result_of (action.Replace id (Some score)) standing = reply.Graded
result_of (action.Read id) grade.Unknown = reply.UnknownId
result_of (action.Read id) grade.Empty = reply.GradeRead None
result_of (action.Read id) (grade.Scored score) = reply.GradeRead (Some score)
result_of (action.Delete id) grade.Unknown = reply.UnknownId
result_of (action.Delete id) standing = reply.Deleted
result_of (action.Issue id) grade.Unknown = reply.Issued
result_of (action.Issue id) standing = reply.AlreadyIssued

-- the reply that the list gives to what the call asks, where its nonce is new
abbrev pub result : List Entry → Call → Reply
result entries call = result_of call.action (standing_of entries call.key (id_of call.action))

-- the reply by the verdict on the nonce: the action's own where it is new
abbrev pub reply_by : Verdict → ℕ → Reply → Reply
reply_by nonce.New now result = result
reply_by nonce.Outside now result = reply.Outside now
reply_by nonce.Used now result = reply.Used
reply_by (nonce.WindowFull live) now result = reply.WindowFull live

-- the reply to a call, before memory is asked for
abbrev pub decide : List Entry → Call → ℕ → Reply
decide entries call window =
    if is_issue call.action then result entries call
    else reply_by (verdict_of entries call window) (now_of entries call) (result entries call)

abbrev pub is_acceptance : Reply → Bool
is_acceptance reply.Noted = true
is_acceptance reply.Launched = true
is_acceptance reply.Graded = true
is_acceptance (reply.GradeRead score) = true
is_acceptance reply.Deleted = true
is_acceptance reply.UnknownId = true
is_acceptance reply.BadScore = true
is_acceptance reply.Issued = true
is_acceptance reply.AlreadyIssued = false
is_acceptance (reply.Outside now) = false
is_acceptance reply.Used = false
is_acceptance (reply.WindowFull live) = false
is_acceptance (reply.JournalFull free) = false
is_acceptance (reply.DiskFault faults) = false
is_acceptance reply.RunFull = false
is_acceptance reply.NoMemory = false

-- The reply is the one decided; in place of an acceptance, want of memory may be answered.
abbrev pub Answers : Reply → Reply → Type 0
Answers decided given = (given ≡ decided) ⊎ ((is_acceptance decided ≡ true) × (given ≡ reply.NoMemory))

-- what an accepted call changes besides its nonce, by its reply: nothing where its id is unknown
abbrev pub effect_of : Action → Reply → Effect
effect_of asked reply.UnknownId = effect.Nothing
effect_of action.Note given = effect.Nothing
effect_of (action.Launch link user sourced_id service) given = effect.Launch link user sourced_id service
effect_of (action.Replace id None) given = effect.Nothing
effect_of (action.Replace id (Some score)) given = effect.Grade id score
effect_of (action.Read id) given = effect.Nothing
effect_of (action.Delete id) given = effect.Cleared id
effect_of (action.Issue id) given = effect.Issued id

-- the entry of an accepted call with its reply
abbrev pub entry_of : Call → Reply → ℕ → Entry
entry_of call given now = record {
  moment = now;
  key = call.key;
  timestamp = call.timestamp;
  nonce = call.nonce;
  effect = effect_of call.action given;
}

-- the entries after a call and its reply: one more exactly where it was accepted
abbrev pub after : List Entry → Call → Reply → List Entry
after entries call given =
    if is_acceptance given then entries ++ entry_of call given (now_of entries call) ∷ [] else entries
