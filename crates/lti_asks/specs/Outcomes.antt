-- What an outcome request asks of the machine, and how the reply to it is told (LTI 1.1.1, section 6).
use Rattle.std.specs.Prelude.{◌≡◌, ◌↔◌, ℕ, Bool, true, false, List, Option, None, Some}
use Rattle.score_decimal.specs.Written.{IsWritten}
use Rattle.pox_outcomes.specs.Request.{EnvelopeOf}
use Rattle.pox_outcomes.specs.declared.outcome.Outcome.{Outcome}
use Rattle.pox_outcomes.specs.declared.outcome.Operation.{Operation}
use Rattle.pox_outcomes.specs.declared.outcome.Operation.TheVariants.{ReplaceResult, ReadResult, DeleteResult}
use Rattle.pox_outcomes.specs.declared.told.Told.{Told}
use Rattle.pox_outcomes.specs.declared.told.Told.TheVariants as told
use Rattle.lti_machine.specs.Belongs.{belongs}
use Rattle.lti_machine.specs.declared.call.Action.{Action}
use Rattle.lti_machine.specs.declared.call.Action.TheVariants as action
use Rattle.lti_machine.specs.declared.reply.Reply.{Reply}
use Rattle.lti_machine.specs.declared.reply.Reply.TheVariants as reply

-- the score that the text writes, if it writes one
abbrev pub IsScoreOf : List ℕ → Option ℕ → Type 0
IsScoreOf text score = (n : ℕ) → (score ≡ Some n) ↔ IsWritten text n

-- what an operation on an id asks, with the score that was sent
abbrev pub asks : Operation → List ℕ → Option ℕ → Action
asks ReplaceResult id score = action.Replace id score
asks ReadResult id score = action.Read id
asks DeleteResult id score = action.Delete id

-- the outcome asks this
pub record IsAskedBy (outcome : Outcome) (made : Action) : Type 0 where
  pub score : Option ℕ
  pub is_score : IsScoreOf outcome.score_text score
  pub action_is : made ≡ asks outcome.operation outcome.sourced_id score

-- the bytes are the envelope of this outcome, which asks this
pub record IsOutcomeCall (bytes : List ℕ) (outcome : Outcome) (made : Action) : Type 0 where
  pub spelled : EnvelopeOf bytes outcome
  pub asked : IsAskedBy outcome made

-- the reply to an outcome's call tells this
abbrev pub IsTold : Outcome → Reply → Told → Type 0
IsTold o reply.Graded this = (o.operation ≡ ReplaceResult) × (score : ℕ) × IsWritten o.score_text score × (this ≡ told.Replaced score)
IsTold o reply.BadScore this = (o.operation ≡ ReplaceResult) × (this ≡ told.BadScore)
IsTold o (reply.GradeRead (Some score)) this = (o.operation ≡ ReadResult) × (this ≡ told.ReadScore score)
IsTold o (reply.GradeRead None) this = (o.operation ≡ ReadResult) × (this ≡ told.ReadNothing)
IsTold o reply.Deleted this = (o.operation ≡ DeleteResult) × (this ≡ told.Deleted)
IsTold o reply.UnknownId this = this ≡ told.UnknownId
IsTold o given this = ⊥

-- the reply is one that an accepted outcome has
abbrev pub is_of_outcomes : Reply → Bool
is_of_outcomes reply.Graded = true
is_of_outcomes (reply.GradeRead score) = true
is_of_outcomes reply.Deleted = true
is_of_outcomes reply.UnknownId = true
is_of_outcomes reply.BadScore = true
is_of_outcomes _ = false

-- A reply to an outcome's call tells one thing.
abbrev pub OneTelling : Type 0
OneTelling = (outcome : Outcome) (given : Reply) (this other : Told) → IsTold outcome given this → IsTold outcome given other → this ≡ other

-- A reply that belongs to what the outcome asks, and is one of an accepted outcome, tells something.
abbrev pub AcceptedIsTold : Type 0
AcceptedIsTold =
    (outcome : Outcome) (asked : Action) (given : Reply)
    → IsAskedBy outcome asked → belongs asked given ≡ true → is_of_outcomes given ≡ true → (told : Told) × IsTold outcome given told
