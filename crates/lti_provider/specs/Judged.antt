-- What is made of the status and the body of an answer.
use Rattle.std.specs.Prelude.{◌≡◌, ◌≢◌, ℕ, List, ⊤, Result, Ok, Err}
use Rattle.pox_outcomes.specs.Answer.{AnswerOf}
use Rattle.pox_outcomes.specs.BadAt.{IsBadAt}
use Rattle.pox_outcomes.specs.declared.answer.Answer.{Answer}
use Rattle.lti_provider.specs.declared.passback_fault.PassbackFault.{PassbackFault}
use Rattle.lti_provider.specs.declared.passback_fault.PassbackFault.TheVariants as fault

abbrev pub IsJudged : ℕ → List ℕ → Result Answer PassbackFault → Type 0
IsJudged status body (Ok answer) = (status ≡ 200) × AnswerOf body answer
IsJudged status body (Err (fault.BadStatus told)) = (status ≡ told) × (told ≢ 200)
IsJudged status body (Err (fault.BadEnvelope at)) = (status ≡ 200) × IsBadAt AnswerOf body at
IsJudged status body (Err fault.NoMemory) = ⊤
IsJudged status body (Err other) = ⊥
