-- How a grade is sent back, and what is made of what comes for it (LTI 1.1.1, section 6; RFC 5849, section 3; the OAuth
-- Request Body Hash draft; the order of the faults is this project's own).
use Rattle.std.specs.Prelude.{◌≡◌, ◌≢◌, ◌⊎◌, ℕ, List, ◌++◌, codes, ⊤, Result, Ok, Err}
use Rattle.lti_outside.specs.Traffic.{Traffic, Moves, no_fault, IsAtEnd, GivesFront}
use Rattle.lti_outside.specs.declared.limits.Limits.{Limits}
use Rattle.oauth_text.specs.Url.{UrlParts}
use Rattle.oauth_request.specs.Signing.{IsSignedBody}
use Rattle.http_wire.specs.Answer.{AnswerSpelling, AnswerFaultOf}
use Rattle.http_wire.specs.Message.{RequestParts, AnswerParts}
use Rattle.http_wire.specs.Spelling.{fault_of}
use Rattle.http_wire.specs.Written.{request_text}
use Rattle.http_wire.specs.declared.fault.WireFault.{WireFault}
use Rattle.http_wire.specs.declared.fault.WireFault.TheVariants as wire
use Rattle.http_wire.specs.declared.message.Answered.{Answered}
use Rattle.pox_outcomes.specs.Answer.{AnswerOf}
use Rattle.pox_outcomes.specs.BadAt.{IsBadAt}
use Rattle.pox_outcomes.specs.Written as envelope
use Rattle.pox_outcomes.specs.Written.{IsXml}
use Rattle.pox_outcomes.specs.declared.answer.Answer.{Answer}
use Rattle.pox_outcomes.specs.declared.outcome.Outcome.{Outcome}
use Rattle.lti_provider.specs.declared.passback_fault.PassbackFault.{PassbackFault}
use Rattle.lti_provider.specs.declared.passback_fault.PassbackFault.TheVariants as fault

-- what is sent: an outcome, to the service's URL, and what it is signed with
pub record Sending : Type 0 where
  pub url : UrlParts
  pub outcome : Outcome
  pub key : List ℕ
  pub secret : List ℕ
  pub moment : ℕ
  pub nonce : List ℕ

-- the media type of an envelope
abbrev pub xml_type : List ℕ
xml_type = codes "application/xml"

-- the request posts the envelope of the outcome, signed with the hash of it
pub record IsPosted (sending : Sending) (q : RequestParts) : Type 0 where
  pub xml : IsXml sending.outcome
  pub signed : IsSignedBody sending.url xml_type (envelope.request_text sending.outcome) sending.key sending.secret sending.moment sending.nonce q

-- the bytes that were read begin with this answer
pub record IsAnswered (limits : Limits) (before after : Traffic) (written : List ℕ) (parts : AnswerParts) : Type 0 where
  pub read : List ℕ
  pub moves : Moves before after read written no_fault
  pub spelled : List ℕ
  pub rest : List ℕ
  pub spelling : AnswerSpelling limits spelled rest (IsAtEnd after) parts
  pub is : read ≡ spelled ++ rest

-- the bytes that were read are no answer, for this cause; a read that failed says nothing of them
abbrev pub IsNoAnswer : Limits → List ℕ → Type 0 → WireFault → Type 0
IsNoAnswer limits read ended wire.ReadFault = ⊤
IsNoAnswer limits read ended wire.NoMemory = ⊥
IsNoAnswer limits read ended cause = AnswerFaultOf limits read ended cause

-- what is made of the bytes that came, where these were written
abbrev pub IsMade : Limits → Traffic → Traffic → List ℕ → Result Answer PassbackFault → Type 0
IsMade limits before after written (Ok answer) =
    (parts : AnswerParts) × IsAnswered limits before after written parts × (parts.status ≡ 200) × AnswerOf parts.body answer
IsMade limits before after written (Err (fault.Wire cause)) =
    (read : List ℕ) × Moves before after read written (fault_of {T = Answered} (Err cause)) × IsNoAnswer limits read (IsAtEnd after) cause
IsMade limits before after written (Err (fault.BadStatus status)) =
    (parts : AnswerParts) × IsAnswered limits before after written parts × (parts.status ≡ status) × (status ≢ 200)
IsMade limits before after written (Err (fault.BadEnvelope at)) =
    (parts : AnswerParts) × IsAnswered limits before after written parts × (parts.status ≡ 200) × IsBadAt AnswerOf parts.body at
IsMade limits before after written (Err fault.NoMemory) = (read : List ℕ) × Moves before after read written no_fault
IsMade limits before after written (Err fault.NotXml) = ⊥
IsMade limits before after written (Err fault.WriteFault) = ⊥

-- The outcome was sent, and this is what came of it: it has no envelope, its request was written in part, or its request
-- was written whole and this was made of what came. Want of memory may come before the first byte or behind the last.
abbrev pub IsPassedBack : Sending → Limits → Traffic → Traffic → Result Answer PassbackFault → Type 0
IsPassedBack sending limits before after (Err fault.NotXml) = (¬ IsXml sending.outcome) × (after ≡ before)
IsPassedBack sending limits before after (Err fault.WriteFault) =
    (q : RequestParts) × IsPosted sending q × GivesFront before after (request_text q)
IsPassedBack sending limits before after (Err fault.NoMemory) =
    (after ≡ before) ⊎ ((q : RequestParts) × IsPosted sending q × IsMade limits before after (request_text q) (Err fault.NoMemory))
IsPassedBack sending limits before after result =
    (q : RequestParts) × IsPosted sending q × IsMade limits before after (request_text q) result
