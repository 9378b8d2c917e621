-- What stands between the bytes that a connection gave, the bytes that it was given, and what was asked of the machine.
use Rattle.std.specs.Prelude.{◌≡◌, ◌<◌, ◌≤◌, ◌⊎◌, ◌+◌, ℕ, List, [], ◌++◌, Bool, true, false, Option, None, Some, ⊤}
use Rattle.lti_outside.specs.Traffic.{Traffic, Fault, no_fault, read_fault, write_fault, Moves, IsAtEnd, IsProperPrefix}
use Rattle.lti_outside.specs.declared.limits.Limits.{Limits}
use Rattle.http_wire.specs.Message.{RequestParts, ResponseParts}
use Rattle.http_wire.specs.Spelling.{Spelling, WireFaultOf, BeginsWithNone}
use Rattle.http_wire.specs.Response.{response_text}
use Rattle.http_wire.specs.declared.fault.WireFault.{WireFault}
use Rattle.http_wire.specs.declared.fault.WireFault.TheVariants as wire
use Rattle.oauth_request.specs.declared.checking.Signed.{Signed}
use Rattle.lti_machine.specs.History.{Member}
use Rattle.lti_machine.specs.Sound.{IsSound}
use Rattle.lti_machine.specs.declared.call.Call.{Call}
use Rattle.lti_machine.specs.declared.reply.Reply.{Reply}
use Rattle.pox_outcomes.specs.declared.outcome.Outcome.{Outcome}
use Rattle.lti_provider.specs.Answers.{IsRendered, wire_answer, no_memory_answer}
use Rattle.lti_provider.specs.Before.{IsAsked}
use Rattle.lti_session.specs.State.{SessionState, Owed}
use Rattle.lti_session.specs.Exchange.{Service, terms_of, Exchange, Progress, IsCallOf, ends_with, Runs, read_of, written_of, told_of}
use Rattle.lti_session.specs.declared.asks.Ask.{Ask}
use Rattle.lti_session.specs.declared.asks.Ask.TheVariants.{Call as Called, End}
use Rattle.lti_session.specs.declared.asks.Next.{Next}
use Rattle.lti_session.specs.declared.asks.Next.TheVariants.{Refused as Declined, Asked, Over}
use Rattle.lti_session.specs.declared.session_end.SessionEnd.{SessionEnd}
use Rattle.lti_session.specs.declared.session_end.SessionEnd.TheVariants.{Ended, LimitReached, CutShort, ReadFault, WriteFault, Refused, NoMemory}

-- the bytes of an answer that ends the connection
abbrev pub last_answer : ResponseParts → List ℕ
last_answer answer = response_text answer true

-- What ended the connection, and what was written behind or in place of the whole answers; `rest` is what was read behind
-- the requests that were answered.
abbrev pub EndTells : Limits → Traffic → Progress → List ℕ → List ℕ → List ℕ → Fault → SessionEnd → Type 0
EndTells limits after to rest answers written fault Ended =
    (fault ≡ no_fault) × (written ≡ answers)
    × (((to.over ≡ true) × (to.count < limits.requests)) ⊎ ((to.over ≡ false) × (rest ≡ []) × IsAtEnd after))
EndTells limits after to rest answers written fault LimitReached =
    (fault ≡ no_fault) × (written ≡ answers) × (limits.requests ≤ to.count)
EndTells limits after to rest answers written fault CutShort =
    (fault ≡ no_fault) × (written ≡ answers) × (to.over ≡ false) × WireFaultOf limits rest (IsAtEnd after) wire.CutShort
EndTells limits after to rest answers written fault ReadFault =
    (fault ≡ read_fault) × (written ≡ answers) × (to.over ≡ false) × BeginsWithNone limits rest
EndTells limits after to rest answers written fault (Refused refusal) =
    (fault ≡ no_fault) × (to.over ≡ false) × WireFaultOf limits rest (IsAtEnd after) refusal
    × (answer : ResponseParts) × (wire_answer refusal ≡ Some answer) × (written ≡ answers ++ last_answer answer)
EndTells limits after to rest answers written fault NoMemory =
    (to.over ≡ false)
    × (((fault ≡ no_fault) × (written ≡ answers ++ last_answer no_memory_answer))
    ⊎ ((fault ≡ write_fault) × (front : List ℕ) × IsProperPrefix front (last_answer no_memory_answer) × (written ≡ answers ++ front)))
EndTells limits after to rest answers written fault WriteFault =
    (fault ≡ write_fault)
    × (IsProperPrefix written answers
    ⊎ ((refusal : WireFault) × (to.over ≡ false) × WireFaultOf limits rest (IsAtEnd after) refusal
    × (answer : ResponseParts) × (wire_answer refusal ≡ Some answer) × IsProperPrefix written (answers ++ last_answer answer)))

-- how far a session has come: each request is answered, one waits for its reply, or the connection has ended
pub data Stage : Type 0 where
  answered : Stage
  waiting : Call → Stage
  ended : SessionEnd → Stage

-- the session waits for the reply to the call of the request that stands next
pub record Waits (service : Service) (to : Progress) (rest : List ℕ) (new : SessionState) (call : Call) : Type 0 where
  pub spelled : List ℕ
  pub request : RequestParts
  pub spelling : Spelling service.limits spelled request
  pub bytes : rest ≡ spelled ++ new.kept
  pub signed : Signed
  pub outcome : Option Outcome
  pub asked : IsAsked (terms_of service) request signed outcome call.action
  pub call_is : IsCallOf service signed call
  pub sound : IsSound call
  pub pending : new.pending ≡ Some (record { ends = ends_with service.limits to.count request; outcome = outcome })
  pub goes_on : to.over ≡ false
  pub below : to.count < service.limits.requests
  pub count : new.count ≡ to.count + 1
  pub over : new.over ≡ false
  pub lives : new.ended ≡ false

pub record IsIdle (to : Progress) (rest : List ℕ) (new : SessionState) : Type 0 where
  pub kept : rest ≡ new.kept
  pub count : new.count ≡ to.count
  pub over : new.over ≡ to.over
  pub pending : new.pending ≡ None
  pub lives : new.ended ≡ false

abbrev pub StageTells : Service → Traffic → Progress → List ℕ → SessionState → List ℕ → List ℕ → Fault → Stage → Type 0
StageTells service after to rest new answers written fault answered = (fault ≡ no_fault) × (written ≡ answers) × IsIdle to rest new
StageTells service after to rest new answers written fault (waiting call) = (fault ≡ no_fault) × (written ≡ answers) × Waits service to rest new call
StageTells service after to rest new answers written fault (ended end) =
    EndTells service.limits after to rest answers written fault end × (new.ended ≡ true)

-- Bytes were read and written, and calls were made and answered, by whole exchanges, up to this stage.
pub record Talks (service : Service) (after : Traffic) (old new : SessionState) (read written : List ℕ) (told : List Member) (fault : Fault) (stage : Stage) : Type 0 where
  pub exchanges : List Exchange
  pub to : Progress
  pub runs : Runs service record { count = old.count; over = old.over } exchanges to
  pub rest : List ℕ
  pub bytes : old.kept ++ read ≡ read_of exchanges ++ rest
  pub told_is : told ≡ told_of exchanges
  pub stage_is : StageTells service after to rest new (written_of exchanges) written fault stage

-- the same, with what passed over the link
pub record Spoken (service : Service) (before after : Traffic) (old new : SessionState) (told : List Member) (stage : Stage) : Type 0 where
  pub read : List ℕ
  pub written : List ℕ
  pub fault : Fault
  pub moves : Moves before after read written fault
  pub talks : Talks service after old new read written told fault stage

-- a whole connection: what was read and written, what was asked of the machine, and how it ended
pub record Transcript (service : Service) (after : Traffic) (read written : List ℕ) (told : List Member) (fault : Fault) (end : SessionEnd) : Type 0 where
  pub exchanges : List Exchange
  pub to : Progress
  pub runs : Runs service record { count = 0; over = false } exchanges to
  pub rest : List ℕ
  pub bytes : read ≡ read_of exchanges ++ rest
  pub told_is : told ≡ told_of exchanges
  pub end_is : EndTells service.limits after to rest (written_of exchanges) written fault end

-- how far an `ask` came
abbrev pub stage_of : Ask → Stage
stage_of (Called call) = waiting call
stage_of (End end) = ended end

-- how far one message came
abbrev pub next_stage : Next → Stage
next_stage Declined = answered
next_stage (Asked call) = waiting call
next_stage (Over end) = ended end

-- a fact where the message was answered
abbrev pub OnRefused : Next → Type 0 → Type 0
OnRefused Declined P = P
OnRefused (Asked call) P = ⊤
OnRefused (Over end) P = ⊤

-- the bytes answer the call that waits with this reply
abbrev pub IsOwed : Option Owed → Reply → List ℕ → Type 0
IsOwed None reply bytes = ⊥
IsOwed (Some owed) reply bytes =
    (answer : ResponseParts) × IsRendered owed.outcome reply answer × (bytes ≡ response_text answer owed.ends)

-- the reply has an answer to the call that waits, as every reply has that belongs to it
abbrev pub HasAnswer : Option Owed → Reply → Type 0
HasAnswer pending reply = (bytes : List ℕ) × IsOwed pending reply bytes

-- whether the connection ends with the answer that waits
abbrev pub ends_then : Option Owed → Bool
ends_then None = false
ends_then (Some owed) = owed.ends
