-- What reading the head and the body of an answer answers.
use Rattle.std.specs.Prelude.{◌≡◌, ◌<◌, ◌≤◌, ℕ, List, [], codes, length, ⊤, Option, None, Some, Result, Ok, Err}
use Rattle.lti_outside.specs.Held.{Held}
use Rattle.lti_outside.specs.declared.limits.Limits.{Limits}
use Rattle.http_wire.specs.declared.answer_head.AnswerFront.{AnswerFront}
use Rattle.http_wire.specs.declared.fault.WireFault.{WireFault}
use Rattle.http_wire.specs.declared.fault.WireFault.TheVariants.{BodyTooLong, ReadFault, NoMemory}
use Rattle.http_wire.specs.Reading.{Tells, Judges}
use Rattle.http_wire.specs.Headers.{values_of, first_in, media_in, length_said}
use Rattle.http_wire.specs.Taking.{BodyTaken}
use Rattle.http_wire.specs.Answer.{AnswerHeadParts, answer_length_conditions, answer_conditions, answer_length, AnswerHeadReads, AnswerHeadFault}

-- what is kept of a head
pub record IsAnswerFront (head_parts : AnswerHeadParts) (front : AnswerFront) : Type 0 where
  pub status : front.status ≡ head_parts.status
  pub media : front.media ≡ media_in (first_in (values_of (codes "Content-Type") head_parts.headers))
  pub length : front.length ≡ answer_length head_parts

abbrev pub AnswerHeadTells : Limits → List ℕ → Result AnswerFront WireFault → Type 0
AnswerHeadTells limits head result =
    Tells (λ front. (head_parts : AnswerHeadParts) × AnswerHeadReads limits head head_parts × IsAnswerFront head_parts front) ⊤ (AnswerHeadFault limits head) result

-- the same of the parts alone
abbrev pub AnswerPartsTell : Limits → AnswerHeadParts → Result AnswerFront WireFault → Type 0
AnswerPartsTell limits head_parts result = Judges (answer_conditions limits head_parts) (IsAnswerFront head_parts) ⊤ result

-- the same of the length alone, which takes no memory
abbrev pub AnswerLengthTells : Limits → List (List ℕ) → Result (Option ℕ) WireFault → Type 0
AnswerLengthTells limits values result = Judges (answer_length_conditions limits values) (λ said. said ≡ length_said values) ⊥ result

-- all bytes up to the end of input were taken, within a limit
abbrev pub RestTaken : ℕ → List ℕ → List ℕ → Type 0 → Result Held WireFault → Type 0
RestTaken most bytes kept ended (Ok rest) = (bytes ≡ rest.list) × (kept ≡ []) × ended × (length rest.list ≤ most)
RestTaken most bytes kept ended (Err BodyTooLong) = most < length bytes
RestTaken most bytes kept ended (Err ReadFault) = ⊤
RestTaken most bytes kept ended (Err NoMemory) = ⊤
RestTaken most bytes kept ended (Err fault) = ⊥

-- the body was taken: as long as was said, or all up to the end of input
abbrev pub AnswerBodyTaken : ℕ → Option ℕ → List ℕ → List ℕ → Type 0 → Result Held WireFault → Type 0
AnswerBodyTaken most None bytes kept ended result = RestTaken most bytes kept ended result
AnswerBodyTaken most (Some count) bytes kept ended result = BodyTaken count bytes kept ended result
