-- What is written is read back (LTI 1.1.1, section 6).
use Rattle.std.specs.Prelude.{◌≡◌, ℕ, ◌^◌, ◌≤◌, List, [], ◌∷◌, ◌++◌, codes}
use Rattle.score_decimal.specs.Printed.{score_text}
use Rattle.pox_outcomes.specs.Request.{EnvelopeOf}
use Rattle.pox_outcomes.specs.Written.{IsXml, IsXmlText, request_text}
use Rattle.pox_outcomes.specs.Answer.{AnswerOf}
use Rattle.pox_outcomes.specs.Answered.{operation_name, answer_text}
use Rattle.pox_outcomes.specs.declared.answer.Answer.{Answer}
use Rattle.pox_outcomes.specs.declared.answer.Major.{Major}
use Rattle.pox_outcomes.specs.declared.answer.Major.TheVariants.{Success, Failure}
use Rattle.pox_outcomes.specs.declared.told.Told.{Told}
use Rattle.pox_outcomes.specs.declared.told.Told.TheVariants.{Replaced, ReadScore, ReadNothing, Deleted, UnknownId, BadScore}
use Rattle.pox_outcomes.specs.declared.outcome.Operation.TheVariants.{ReplaceResult}
use Rattle.pox_outcomes.specs.declared.outcome.Outcome.{Outcome}

-- a score text stands only where the score is set
abbrev pub IsFitting : Outcome → Type 0
IsFitting o = (o.operation ≡ ReplaceResult → ⊥) → o.score_text ≡ []

-- the text written for an outcome is an envelope of it
abbrev pub WrittenIsRead : Type 0
WrittenIsRead = (o : Outcome) → IsXml o → IsFitting o → EnvelopeOf (request_text o) o

-- What is read can be written again: its texts are XML text, and it has a score text only where the score is set.
abbrev pub ReadIsWritable : Type 0
ReadIsWritable = (bytes : List ℕ) (o : Outcome) → EnvelopeOf bytes o → IsXml o × IsFitting o

-- what an answer says that tells this: its major code, its severity, its description of an id, and its score's text
abbrev pub major_told : Told → Major
major_told (Replaced score) = Success
major_told (ReadScore score) = Success
major_told ReadNothing = Success
major_told Deleted = Success
major_told UnknownId = Failure
major_told BadScore = Failure

abbrev pub severity_told : Told → List ℕ
severity_told (Replaced score) = codes "status"
severity_told (ReadScore score) = codes "status"
severity_told ReadNothing = codes "status"
severity_told Deleted = codes "status"
severity_told UnknownId = codes "error"
severity_told BadScore = codes "error"

abbrev pub description_told : Told → List ℕ → List ℕ
description_told (Replaced score) id = codes "Score for " ++ (id ++ (codes " is now " ++ score_text score))
description_told (ReadScore score) id = codes "Score for " ++ (id ++ (codes " is " ++ score_text score))
description_told ReadNothing id = codes "No score for" ++ 32 ∷ id
description_told Deleted id = codes "Score for " ++ (id ++ codes " is deleted")
description_told UnknownId id = codes "Unknown sourcedId" ++ 32 ∷ id
description_told BadScore id = codes "Score for " ++ (id ++ codes " is no number from 0 to 1")

abbrev pub score_told : Told → List ℕ
score_told (Replaced score) = []
score_told (ReadScore score) = score_text score
score_told ReadNothing = []
score_told Deleted = []
score_told UnknownId = []
score_told BadScore = []

abbrev pub answer_told : Outcome → Told → Answer
answer_told o told = record {
  message = o.message;
  major = major_told told;
  severity = severity_told told;
  description = description_told told o.sourced_id;
  message_ref = o.message;
  operation_ref = operation_name o.operation;
  score_text = score_told told;
}

-- a score that is told is from 0 to 1, in units of 10^-30
abbrev pub IsInRange : Told → Type 0
IsInRange (Replaced score) = score ≤ 10 ^ 30
IsInRange (ReadScore score) = score ≤ 10 ^ 30
IsInRange ReadNothing = Unit {0}
IsInRange Deleted = Unit {0}
IsInRange UnknownId = Unit {0}
IsInRange BadScore = Unit {0}

-- the answer written for an outcome says what was told
abbrev pub WrittenAnswerIsRead : Type 0
WrittenAnswerIsRead = (o : Outcome) (told : Told) → IsXmlText o.message → IsXmlText o.sourced_id → IsInRange told → AnswerOf (answer_text o told) (answer_told o told)
