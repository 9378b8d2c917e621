-- What was written, and then what is made of what comes.
use Rattle.std.proofs.Common.{◌≡◌, List, [], ◌++◌, ℕ, inr, sym, ap, ◌∙◌, subst, Result, Ok, Err, IsErrAnd}
use Rattle.lti_outside.specs.Traffic.{Traffic, Moves, no_fault, IsAtEnd}
use Rattle.lti_outside.specs.declared.limits.Limits.{Limits}
use Rattle.lti_outside.proofs.TrafficLemmas.{Moves-takes}
use Rattle.http_wire.specs.Answer.{AnswerTells}
use Rattle.http_wire.specs.Message.{RequestParts, AnswerParts, answer_parts_of}
use Rattle.http_wire.specs.Spelling.{fault_of}
use Rattle.http_wire.specs.Written.{request_text}
use Rattle.http_wire.specs.declared.fault.WireFault.{WireFault}
use Rattle.http_wire.specs.declared.fault.WireFault.TheVariants as wire
use Rattle.http_wire.specs.declared.message.Answered.{Answered}
use Rattle.pox_outcomes.specs.declared.answer.Answer.{Answer}
use Rattle.lti_provider.specs.Causes.{fault_by}
use Rattle.lti_provider.specs.Judged.{IsJudged}
use Rattle.lti_provider.specs.Passback.{Sending, IsPosted, IsAnswered, IsMade, IsPassedBack}
use Rattle.lti_provider.specs.declared.passback_fault.PassbackFault.{PassbackFault}
use Rattle.lti_provider.specs.declared.passback_fault.PassbackFault.TheVariants as fault

answered : (limits : Limits) (before between after : Traffic) (written : List ℕ) (parts : AnswerParts)
    → Moves before between [] written no_fault → IsAnswered limits between after [] parts → IsAnswered limits before after written parts
answered limits before between after written parts gave are = record {
  read = are.read;
  moves = Moves-takes gave are.moves;
  spelled = are.spelled;
  rest = are.rest;
  spelling = are.spelling;
  is = are.is;
}

made_behind : (limits : Limits) (before between after : Traffic) (written : List ℕ) (result : Result Answer PassbackFault)
    → Moves before between [] written no_fault → IsMade limits between after [] result → IsMade limits before after written result
made_behind limits before between after written (Ok answer) gave made =
    (made.0, answered limits before between after written made.0 gave made.1, made.2, made.3)
made_behind limits before between after written (Err (fault.Wire cause)) gave made = (made.0, Moves-takes gave made.1, made.2)
made_behind limits before between after written (Err (fault.BadStatus status)) gave made =
    (made.0, answered limits before between after written made.0 gave made.1, made.2, made.3)
made_behind limits before between after written (Err (fault.BadEnvelope at)) gave made =
    (made.0, answered limits before between after written made.0 gave made.1, made.2, made.3)
made_behind limits before between after written (Err fault.NoMemory) gave made = (made.0, Moves-takes gave made.1)
made_behind limits before between after written (Err fault.NotXml) gave made = absurd made
made_behind limits before between after written (Err fault.WriteFault) gave made = absurd made

pub passed_back : (sending : Sending) (limits : Limits) (before between after : Traffic) (q : RequestParts) (result : Result Answer PassbackFault)
    → IsPosted sending q → Moves before between [] (request_text q) no_fault → IsMade limits between after [] result
    → IsPassedBack sending limits before after result
passed_back sending limits before between after q (Ok answer) posted gave made =
    (q, posted, made_behind limits before between after (request_text q) (Ok answer) gave made)
passed_back sending limits before between after q (Err (fault.Wire cause)) posted gave made =
    (q, posted, made_behind limits before between after (request_text q) (Err (fault.Wire cause)) gave made)
passed_back sending limits before between after q (Err (fault.BadStatus status)) posted gave made =
    (q, posted, made_behind limits before between after (request_text q) (Err (fault.BadStatus status)) gave made)
passed_back sending limits before between after q (Err (fault.BadEnvelope at)) posted gave made =
    (q, posted, made_behind limits before between after (request_text q) (Err (fault.BadEnvelope at)) gave made)
passed_back sending limits before between after q (Err fault.NoMemory) posted gave made =
    inr (q, posted, made_behind limits before between after (request_text q) (Err fault.NoMemory) gave made)
passed_back sending limits before between after q (Err fault.NotXml) posted gave made = absurd made
passed_back sending limits before between after q (Err fault.WriteFault) posted gave made = absurd made

-- what is made of an answer, and of none
pub judged_made : (limits : Limits) (before after : Traffic) (answered : Answered) (start kept : List ℕ) (result : Result Answer PassbackFault) → start ≡ []
    → (read : List ℕ) × Moves before after read [] no_fault × AnswerTells limits (start ++ read) kept (IsAtEnd after) (Ok answered)
    → IsJudged answered.status answered.body.list result → IsMade limits before after [] result
judged_made limits before after answered start kept result none came judged = by result judged
  where
    are : IsAnswered limits before after [] (answer_parts_of answered)
    are = record { read = came.0; moves = came.1; spelled = came.2.0; rest = kept; spelling = came.2.1; is = ap (λ (bytes : List ℕ). bytes ++ came.0) (sym none) ∙ came.2.2 }

    by : (r : Result Answer PassbackFault) → IsJudged answered.status answered.body.list r → IsMade limits before after [] r
    by (Ok answer) is = (answer_parts_of answered, are, is.0, is.1)
    by (Err (fault.BadStatus status)) is = (answer_parts_of answered, are, is.0, is.1)
    by (Err (fault.BadEnvelope at)) is = (answer_parts_of answered, are, is.0, is.1)
    by (Err fault.NoMemory) is = (came.0, came.1)
    by (Err (fault.Wire cause)) is = absurd is
    by (Err fault.NotXml) is = absurd is
    by (Err fault.WriteFault) is = absurd is

unread : (limits : Limits) (before after : Traffic) (kept : List ℕ) (cause : WireFault)
    → (read : List ℕ) × Moves before after read [] (fault_of {T = Answered} (Err cause)) × AnswerTells limits read kept (IsAtEnd after) (Err cause)
    → IsMade limits before after [] (Err (fault_by cause))
unread limits before after kept wire.HeadTooLong came = came
unread limits before after kept wire.TooManyHeaders came = came
unread limits before after kept wire.BadHead came = came
unread limits before after kept wire.BadTarget came = came
unread limits before after kept wire.BadHost came = came
unread limits before after kept wire.Chunked came = came
unread limits before after kept wire.BadLength came = came
unread limits before after kept wire.LengthMissing came = came
unread limits before after kept wire.BodyTooLong came = came
unread limits before after kept wire.CutShort came = came
unread limits before after kept wire.ReadFault came = came
unread limits before after kept wire.NoMemory came = (came.0, came.1)

pub unread_made : (limits : Limits) (before after : Traffic) (start kept : List ℕ) (cause : WireFault) (result : Result Answer PassbackFault) → start ≡ []
    → IsErrAnd result (λ (f : PassbackFault). f ≡ fault_by cause)
    → (read : List ℕ) × Moves before after read [] (fault_of {T = Answered} (Err cause)) × AnswerTells limits (start ++ read) kept (IsAtEnd after) (Err cause)
    → IsMade limits before after [] result
unread_made limits before after start kept cause (Ok answer) none is came = absurd is
unread_made limits before after start kept cause (Err f) none is came =
    subst (λ (f : PassbackFault). IsMade limits before after [] (Err f)) (sym is)
    (unread limits before after kept cause (came.0, came.1, subst (λ (bytes : List ℕ). AnswerTells limits (bytes ++ came.0) kept (IsAtEnd after) (Err cause)) none came.2))
