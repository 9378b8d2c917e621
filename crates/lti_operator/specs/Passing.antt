-- What a run of `passback` did (this project's own, over LTI 1.1.1, section 6).
use Rattle.std.specs.Prelude.{◌≡◌, ◌⊎◌, ℕ, List, Option, Some, None, Result, Ok, Err}
use Rattle.lti_outside.specs.Traffic.{Traffic}
use Rattle.lti_outside.specs.declared.limits.Limits.{Limits}
use Rattle.oauth_text.specs.Url.{UrlParts, IsUrl}
use Rattle.http_wire.specs.declared.fault.WireFault.TheVariants as wire
use Rattle.score_decimal.specs.Printed.{score_text}
use Rattle.pox_outcomes.specs.declared.answer.Answer.{Answer}
use Rattle.pox_outcomes.specs.declared.answer.Major.{Major}
use Rattle.pox_outcomes.specs.declared.answer.Major.TheVariants.{Success}
use Rattle.pox_outcomes.specs.declared.outcome.Operation.TheVariants.{ReplaceResult}
use Rattle.lti_machine.specs.declared.entry.Entry.{Entry}
use Rattle.lti_machine.specs.Placements.{PlacementValue, placement}
use Rattle.lti_provider.specs.Passback.{Sending, IsPassedBack}
use Rattle.lti_provider.specs.declared.passback_fault.PassbackFault.{PassbackFault}
use Rattle.lti_provider.specs.declared.passback_fault.PassbackFault.TheVariants as fault
use Rattle.lti_words.specs.Command.{PassbackCommand}
use Rattle.lti_operator.specs.Made.{IsMadeMoment, IsMadeNonce}
use Rattle.lti_words.specs.declared.status.Status.{Status}
use Rattle.lti_words.specs.declared.status.Status.TheVariants as ends

-- the score, for the sourcedId of the placement, is sent to the placement's service; the message has the nonce as its
-- identifier
pub record IsSendingOf (passback : PassbackCommand) (secret : List ℕ) (placed : PlacementValue) (clock : Option ℕ) (random random' : Option (List ℕ)) (sending : Sending) : Type 0 where
  pub url : IsUrl placed.service sending.url
  pub outcome : sending.outcome ≡ record { message = sending.nonce; operation = ReplaceResult; sourced_id = placed.sourced_id; score_text = score_text passback.score }
  pub key : sending.key ≡ passback.key
  pub secret_is : sending.secret ≡ secret
  pub moment : IsMadeMoment clock sending.moment
  pub nonce : IsMadeNonce random random' sending.nonce

abbrev pub by_major : Major → Status
by_major Success = ends.Done
by_major _ = ends.NotSuccess

-- how the command ends, by what came back
abbrev pub came_to : Result Answer PassbackFault → Status
came_to (Ok answer) = by_major answer.major
came_to (Err fault.NotXml) = ends.NoPlacement
came_to (Err fault.WriteFault) = ends.WriteFault
came_to (Err (fault.Wire wire.CutShort)) = ends.CutShort
came_to (Err (fault.Wire wire.ReadFault)) = ends.ReadFault
came_to (Err (fault.Wire cause)) = ends.Refused
came_to (Err (fault.BadStatus status)) = ends.NotSuccess
came_to (Err (fault.BadEnvelope at)) = ends.Refused
came_to (Err fault.NoMemory) = ends.NoMemory

-- no launch of the user from the link says where the grade goes, or its service has no address
abbrev pub HasNoPlacement : PassbackCommand → List Entry → Type 0
HasNoPlacement passback entries =
    (placement entries passback.key passback.link passback.user ≡ None)
    ⊎ ((placed : PlacementValue) × (placement entries passback.key passback.link passback.user ≡ Some placed) × ((url : UrlParts) → IsUrl placed.service url → ⊥))

-- the command ended before anything passed over the link
pub data EndsFirst (passback : PassbackCommand) (entries : List Entry) (status : Status) : Type 0 where
  nowhere : HasNoPlacement passback entries → status ≡ ends.NoPlacement → EndsFirst passback entries status
  no_memory : status ≡ ends.NoMemory → EndsFirst passback entries status

-- the grade was sent, or tried to be, to where the last launch says, and this came of it
pub record Sends (passback : PassbackCommand) (secret : List ℕ) (entries : List Entry) (clock : Option ℕ) (random random' : Option (List ℕ)) (limits : Limits) (before after : Traffic) (status : Status) : Type 0 where
  pub placed : PlacementValue
  pub placed_is : placement entries passback.key passback.link passback.user ≡ Some placed
  pub sending : Sending
  pub sending_is : IsSendingOf passback secret placed clock random random' sending
  pub came : Result Answer PassbackFault
  pub passed : IsPassedBack sending limits before after came
  pub status_is : status ≡ came_to came

abbrev pub IsPassed : PassbackCommand → List ℕ → List Entry → Option ℕ → Option (List ℕ) → Option (List ℕ) → Limits → Traffic → Traffic → Status → Type 0
IsPassed passback secret entries clock random random' limits before after status =
    ((after ≡ before) × EndsFirst passback entries status) ⊎ Sends passback secret entries clock random random' limits before after status
