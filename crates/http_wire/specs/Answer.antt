-- What the bytes of a connection spell as an answer, and what is wrong with bytes that spell none (RFC 9112, sections 2,
-- 4, 5 and 6, within the limits of a run and without chunked bodies).
use Rattle.std.specs.Prelude.{◌≡◌, ◌<◌, ◌≤◌, ◌⊎◌, not, nat_lt, ℕ, List, [], ◌∷◌, ◌++◌, length, map, codes, ⊤, Option, None, Some, Result, Ok, Err}
use Rattle.httparse.specs.Grammar.{ResponseHead, ReadsResponse, status_code}
use Rattle.httparse.specs.Spans.{name_and_value}
use Rattle.lti_outside.specs.declared.limits.Limits.{Limits}
use Rattle.http_wire.specs.declared.message.Answered.{Answered}
use Rattle.http_wire.specs.declared.fault.WireFault.{WireFault}
use Rattle.http_wire.specs.declared.fault.WireFault.TheVariants.{HeadTooLong, CutShort, BadHead, Chunked, BadLength, BodyTooLong, ReadFault, NoMemory}
use Rattle.http_wire.specs.Conditions.{Condition}
use Rattle.http_wire.specs.Shape.{HasNoHead, IsHead}
use Rattle.http_wire.specs.Reading.{Reads, ReadingFault}
use Rattle.http_wire.specs.Headers.{values_of, first_in, is_none, has_bad_header, media_in, is_bad_length, length_said, length_in}
use Rattle.http_wire.specs.Message.{AnswerParts, answer_parts_of}
use Rattle.http_wire.specs.Spelling.{HeadIn, IsHeadTooLong}

-- a head as it was read: the status code and the headers
pub record AnswerHeadParts : Type 0 where
  pub status : ℕ
  pub headers : List (List ℕ × List ℕ)

abbrev pub answer_head_parts_of : ResponseHead → AnswerHeadParts
answer_head_parts_of h = record { status = status_code h; headers = map name_and_value h.fields }

-- the conditions on the length that is said
abbrev pub answer_length_conditions : Limits → List (List ℕ) → List (Condition WireFault)
answer_length_conditions limits values =
    record { holds = is_bad_length values; fault = BadLength }
    ∷ record { holds = nat_lt limits.body (length_in values); fault = BodyTooLong } ∷ []

-- the conditions on the parts of a head
abbrev pub answer_conditions : Limits → AnswerHeadParts → List (Condition WireFault)
answer_conditions limits head_parts =
    record { holds = has_bad_header head_parts.headers; fault = BadHead }
    ∷ record { holds = not (is_none (values_of (codes "Transfer-Encoding") head_parts.headers)); fault = Chunked }
    ∷ answer_length_conditions limits (values_of (codes "Content-Length") head_parts.headers)

-- the length of the body, where it is said
abbrev pub answer_length : AnswerHeadParts → Option ℕ
answer_length head_parts = length_said (values_of (codes "Content-Length") head_parts.headers)

-- the answer of a head and a body
abbrev pub answer_of : AnswerHeadParts → List ℕ → AnswerParts
answer_of head_parts body = record {
  status = head_parts.status;
  media = media_in (first_in (values_of (codes "Content-Type") head_parts.headers));
  body = body;
}

-- the bytes are a head of an answer
abbrev pub IsAnswerOf : List ℕ → ResponseHead → Type 0
IsAnswerOf head parsed = ReadsResponse head parsed []

-- the bytes are a head without fault, which says this
abbrev pub AnswerHeadReads : Limits → List ℕ → AnswerHeadParts → Type 0
AnswerHeadReads limits head head_parts = Reads IsAnswerOf answer_head_parts_of (answer_conditions limits) limits head head_parts

-- the first fault of the head: of its lines, that it is no head of the grammar, of its parts
abbrev pub AnswerHeadFault : Limits → List ℕ → WireFault → Type 0
AnswerHeadFault limits head fault = ReadingFault IsAnswerOf answer_head_parts_of (answer_conditions limits) limits head fault

-- the body is as long as was said; where nothing was said it is all up to the end of input, within the limit
abbrev pub IsAnswerBody : Limits → List ℕ → Type 0 → List ℕ → Option ℕ → Type 0
IsAnswerBody limits rest ended body None = (length body ≤ limits.body) × (rest ≡ []) × ended
IsAnswerBody limits rest ended body (Some count) = length body ≡ count

-- The bytes are the whole spelling of the answer, with the rest behind them; `ended` says that the input ends behind the
-- rest.
pub record AnswerSpelling (limits : Limits) (bytes rest : List ℕ) (ended : Type 0) (parts : AnswerParts) : Type 0 where
  pub head : List ℕ
  pub head_parts : AnswerHeadParts
  pub is_head : IsHead head
  pub fits : length head ≤ limits.head
  pub reads : AnswerHeadReads limits head head_parts
  pub body : IsAnswerBody limits rest ended parts.body (answer_length head_parts)
  pub is : bytes ≡ head ++ parts.body
  pub parts_are : parts ≡ answer_of head_parts parts.body

-- the input ends inside a head, or before it
abbrev pub EndsBeforeBody : Limits → List ℕ → Type 0 → Type 0
EndsBeforeBody limits bytes ended = (length bytes < limits.head) × HasNoHead bytes × ended

-- the input ends inside a body whose length was said
abbrev pub EndsInAnswer : Limits → List ℕ → List ℕ → Type 0 → Type 0
EndsInAnswer limits head rest ended =
    (head_parts : AnswerHeadParts) × AnswerHeadReads limits head head_parts × (count : ℕ) × (answer_length head_parts ≡ Some count) × (length rest < count) × ended

-- more bytes than the limit stand behind a head that says no length
abbrev pub IsAnswerTooLong : Limits → List ℕ → List ℕ → Type 0
IsAnswerTooLong limits head rest =
    (head_parts : AnswerHeadParts) × AnswerHeadReads limits head head_parts × (answer_length head_parts ≡ None) × (limits.body < length rest)

-- the first fault of the bytes; `ended` says that the input ends behind them
abbrev pub AnswerFaultOf : Limits → List ℕ → Type 0 → WireFault → Type 0
AnswerFaultOf limits bytes ended fault =
    ((fault ≡ HeadTooLong) × IsHeadTooLong limits bytes)
    ⊎ (((fault ≡ CutShort) × EndsBeforeBody limits bytes ended)
    ⊎ ((head : List ℕ) × (rest : List ℕ) × HeadIn limits bytes head rest
    × (AnswerHeadFault limits head fault
    ⊎ (((fault ≡ BodyTooLong) × IsAnswerTooLong limits head rest)
    ⊎ ((fault ≡ CutShort) × EndsInAnswer limits head rest ended)))))

-- what was found in the bytes that were kept before and taken since, and what is kept of them
abbrev pub AnswerTells : Limits → List ℕ → List ℕ → Type 0 → Result Answered WireFault → Type 0
AnswerTells limits bytes kept ended (Ok answered) =
    (spelled : List ℕ) × AnswerSpelling limits spelled kept ended (answer_parts_of answered) × (bytes ≡ spelled ++ kept)
AnswerTells limits bytes kept ended (Err ReadFault) = ⊤
AnswerTells limits bytes kept ended (Err NoMemory) = ⊤
AnswerTells limits bytes kept ended (Err fault) = AnswerFaultOf limits bytes ended fault

-- bytes are an answer and a rest in one way at most, if the input ends behind them
abbrev pub OneAnswer : Type 0
OneAnswer =
    (limits : Limits) (one other x y : List ℕ) (p q : AnswerParts)
    → AnswerSpelling limits one x ⊤ p → AnswerSpelling limits other y ⊤ q → one ++ x ≡ other ++ y → (one ≡ other) × (p ≡ q) × (x ≡ y)
