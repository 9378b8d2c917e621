-- Each reply that belongs to a call has an answer.
use Rattle.std.proofs.Common.{◌≡◌, ℕ, List, true, true≢false, inl, inr, Option, Some, None, refl, sym, ap, ◌∙◌, subst}
use Rattle.http_wire.specs.Message.{RequestParts, ResponseParts}
use Rattle.http_wire.specs.Response.{response_text}
use Rattle.pox_outcomes.specs.declared.outcome.Outcome.{Outcome}
use Rattle.pox_outcomes.specs.declared.told.Told.{Told}
use Rattle.lti_machine.specs.Belongs.{belongs}
use Rattle.lti_machine.specs.declared.call.Action.{Action}
use Rattle.lti_machine.specs.declared.call.Action.TheVariants as action
use Rattle.lti_machine.specs.declared.call.Call.{Call}
use Rattle.lti_machine.specs.declared.reply.Reply.{Reply}
use Rattle.lti_machine.specs.declared.reply.Reply.TheVariants.{Noted, Launched, Graded, GradeRead, Deleted, UnknownId, BadScore, Issued, AlreadyIssued, Outside, Used, WindowFull, JournalFull, DiskFault, RunFull, NoMemory}
use Rattle.pox_outcomes.specs.declared.outcome.Operation.{Operation}
use Rattle.pox_outcomes.specs.declared.outcome.Operation.TheVariants.{ReplaceResult, ReadResult, DeleteResult}
use Rattle.oauth_request.specs.Checked.{parameters}
use Rattle.lti_launch.specs.Launch.{launch_of}
use Rattle.lti_launch.specs.declared.fields.LaunchField.TheVariants.{ResourceLinkId, UserId, LisResultSourcedid, LisOutcomeServiceUrl}
use Rattle.lti_asks.specs.Launches.{text_of}
use Rattle.lti_asks.specs.Outcomes.{IsAskedBy, IsTold, asks}
use Rattle.lti_provider.specs.Answers.{plain_answer, IsRendered, told_answer}
use Rattle.lti_provider.specs.Before.{Asks}
use Rattle.lti_provider.specs.declared.routes.Route.{Route}
use Rattle.lti_provider.specs.declared.routes.Route.TheVariants.{Launches, Outcomes}
use Rattle.lti_asks.specs.Outcomes.{is_of_outcomes}
use Rattle.lti_asks.proofs.OutcomeLemmas.{accepted_is_told, one_telling}
use Rattle.lti_session.specs.State.{SessionState}
use Rattle.lti_session.specs.Exchange.{Service, Progress, ends_with}
use Rattle.lti_session.specs.Talk.{Waits, IsOwed, HasAnswer}

abbrev HasPlain : Reply → Type 0
HasPlain reply = (answer : ResponseParts) × (plain_answer reply ≡ Some answer)

-- what belongs to a launch is said in plain text
plain_of_launch : (link user sourced_id service : List ℕ) (reply : Reply) → belongs (action.Launch link user sourced_id service) reply ≡ true → HasPlain reply
plain_of_launch link user sourced_id service Noted fits = (_, refl)
plain_of_launch link user sourced_id service Launched fits = (_, refl)
plain_of_launch link user sourced_id service (Outside now) fits = (_, refl)
plain_of_launch link user sourced_id service Used fits = (_, refl)
plain_of_launch link user sourced_id service (WindowFull live) fits = (_, refl)
plain_of_launch link user sourced_id service (JournalFull free) fits = (_, refl)
plain_of_launch link user sourced_id service (DiskFault faults) fits = (_, refl)
plain_of_launch link user sourced_id service RunFull fits = (_, refl)
plain_of_launch link user sourced_id service NoMemory fits = (_, refl)
plain_of_launch link user sourced_id service Graded fits = absurd (true≢false (sym fits))
plain_of_launch link user sourced_id service (GradeRead score) fits = absurd (true≢false (sym fits))
plain_of_launch link user sourced_id service Deleted fits = absurd (true≢false (sym fits))
plain_of_launch link user sourced_id service UnknownId fits = absurd (true≢false (sym fits))
plain_of_launch link user sourced_id service BadScore fits = absurd (true≢false (sym fits))
plain_of_launch link user sourced_id service Issued fits = absurd (true≢false (sym fits))
plain_of_launch link user sourced_id service AlreadyIssued fits = absurd (true≢false (sym fits))

-- an outcome asks for no issue
never_issued : (operation : Operation) (id : List ℕ) (score : Option ℕ) → (belongs (asks operation id score) Issued ≡ true → ⊥) × (belongs (asks operation id score) AlreadyIssued ≡ true → ⊥)
never_issued ReplaceResult id score = (λ fits. true≢false (sym fits), λ fits. true≢false (sym fits))
never_issued ReadResult id score = (λ fits. true≢false (sym fits), λ fits. true≢false (sym fits))
never_issued DeleteResult id score = (λ fits. true≢false (sym fits), λ fits. true≢false (sym fits))

-- what is told is in an envelope
told_rendered : (o : Outcome) (asked : Action) (reply : Reply) → IsAskedBy o asked → belongs asked reply ≡ true → is_of_outcomes reply ≡ true → (answer : ResponseParts) × IsRendered (Some o) reply answer
told_rendered o asked reply is fits of_outcomes =
    let told = accepted_is_told o asked reply is fits of_outcomes in
    (told_answer o told.0, inr (told.0, told.1, refl))

-- what belongs to an outcome has an answer
outcome_rendered : (o : Outcome) (asked : Action) (reply : Reply) → IsAskedBy o asked → belongs asked reply ≡ true → (answer : ResponseParts) × IsRendered (Some o) reply answer
outcome_rendered o asked Noted is fits = (_, inl refl)
outcome_rendered o asked Launched is fits = (_, inl refl)
outcome_rendered o asked (Outside now) is fits = (_, inl refl)
outcome_rendered o asked Used is fits = (_, inl refl)
outcome_rendered o asked (WindowFull live) is fits = (_, inl refl)
outcome_rendered o asked (JournalFull free) is fits = (_, inl refl)
outcome_rendered o asked (DiskFault faults) is fits = (_, inl refl)
outcome_rendered o asked RunFull is fits = (_, inl refl)
outcome_rendered o asked NoMemory is fits = (_, inl refl)
outcome_rendered o asked Graded is fits = told_rendered o asked Graded is fits refl
outcome_rendered o asked (GradeRead score) is fits = told_rendered o asked (GradeRead score) is fits refl
outcome_rendered o asked Deleted is fits = told_rendered o asked Deleted is fits refl
outcome_rendered o asked UnknownId is fits = told_rendered o asked UnknownId is fits refl
outcome_rendered o asked BadScore is fits = told_rendered o asked BadScore is fits refl
outcome_rendered o asked Issued is fits =
    absurd ((never_issued o.operation o.sourced_id is.score).0 (ap (λ a. belongs a Issued) (sym is.action_is) ∙ fits))
outcome_rendered o asked AlreadyIssued is fits =
    absurd ((never_issued o.operation o.sourced_id is.score).1 (ap (λ a. belongs a AlreadyIssued) (sym is.action_is) ∙ fits))

-- what belongs to what a request asks has an answer
call_rendered : (route : Route) (q : RequestParts) (outcome : Option Outcome) (asked : Action) (reply : Reply) → Asks route q outcome asked → belongs asked reply ≡ true → (answer : ResponseParts) × IsRendered outcome reply answer
call_rendered Launches q None asked reply is fits =
    let launch = launch_of (parameters q) in
    plain_of_launch (text_of launch ResourceLinkId) (text_of launch UserId) (text_of launch LisResultSourcedid) (text_of launch LisOutcomeServiceUrl) reply
    (ap (λ a. belongs a reply) (sym is.action_is) ∙ fits)
call_rendered Launches q (Some o) asked reply is fits = absurd is
call_rendered Outcomes q None asked reply is fits = absurd is
call_rendered Outcomes q (Some o) asked reply is fits = outcome_rendered o asked reply is.asked fits

-- the answer that is owed to the call that waits
pub answer_owed : (service : Service) (to : Progress) (rest : List ℕ) (new : SessionState) (call : Call) → Waits service to rest new call
    → (reply : Reply) → belongs call.action reply ≡ true → HasAnswer new.pending reply
answer_owed service to rest new call waits reply fits =
    let answer = call_rendered waits.asked.route waits.request waits.outcome call.action reply waits.asked.call fits in
    let bytes = response_text answer.0 (ends_with service.limits to.count waits.request) in
    (bytes, subst (λ p. IsOwed p reply bytes) (sym waits.pending) (answer.0, answer.1, refl))

-- ---- what is told, and what is said in plain text

-- a reply that is told has no plain answer
told_not_plain : (o : Outcome) (reply : Reply) (this : Told) (answer : ResponseParts) → IsTold o reply this → plain_answer reply ≡ Some answer → ⊥
told_not_plain o Noted this answer told plain = told
told_not_plain o Launched this answer told plain = told
told_not_plain o (Outside now) this answer told plain = told
told_not_plain o Used this answer told plain = told
told_not_plain o (WindowFull live) this answer told plain = told
told_not_plain o (JournalFull free) this answer told plain = told
told_not_plain o (DiskFault faults) this answer told plain = told
told_not_plain o RunFull this answer told plain = told
told_not_plain o NoMemory this answer told plain = told
told_not_plain o Issued this answer told plain = told
told_not_plain o AlreadyIssued this answer told plain = told
told_not_plain o Graded this answer told plain = let e = plain in cc
told_not_plain o Deleted this answer told plain = let e = plain in cc
told_not_plain o UnknownId this answer told plain = let e = plain in cc
told_not_plain o BadScore this answer told plain = let e = plain in cc
told_not_plain o (GradeRead (Some score)) this answer told plain = let e = plain in cc
told_not_plain o (GradeRead None) this answer told plain = let e = plain in cc

-- a reply has one answer
pub rendered_once : (outcome : Option Outcome) (reply : Reply) (a b : ResponseParts) → IsRendered outcome reply a → IsRendered outcome reply b → a ≡ b
rendered_once None reply a b one other = let e = sym one ∙ other in cc
rendered_once (Some o) reply a b (inl one) (inl other) = let e = sym one ∙ other in cc
rendered_once (Some o) reply a b (inl one) (inr other) = absurd (told_not_plain o reply other.0 a other.1 one)
rendered_once (Some o) reply a b (inr one) (inl other) = absurd (told_not_plain o reply one.0 b one.1 other)
rendered_once (Some o) reply a b (inr one) (inr other) =
    one.2 ∙ ap (told_answer o) (one_telling o reply one.0 other.0 one.1 other.1) ∙ sym other.2

-- want of memory may be told of every call
no_memory_fits : (asked : Action) → belongs asked NoMemory ≡ true
no_memory_fits action.Note = refl
no_memory_fits (action.Launch link user sourced_id service) = refl
no_memory_fits (action.Replace id score) = refl
no_memory_fits (action.Read id) = refl
no_memory_fits (action.Delete id) = refl
no_memory_fits (action.Issue id) = refl

pub no_memory_owed : (service : Service) (to : Progress) (rest : List ℕ) (new : SessionState) (call : Call) → Waits service to rest new call → HasAnswer new.pending NoMemory
no_memory_owed service to rest new call waits = answer_owed service to rest new call waits NoMemory (no_memory_fits call.action)
