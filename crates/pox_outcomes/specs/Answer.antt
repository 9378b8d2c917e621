-- Answers to outcome requests (LTI 1.1.1, section 6, and the schema imsoms_v1p0). In markup a space stands for any
-- white bytes.
use Rattle.std.specs.Prelude.{ℕ, List, [], ◌∷◌, codes}
use Rattle.pox_outcomes.specs.Language.{◌▸◌}
use Rattle.pox_outcomes.specs.Markup.{IsMarkup, word_at}
use Rattle.pox_outcomes.specs.Document.{IsHead, DocumentOf}
use Rattle.pox_outcomes.specs.Optional.{IsOptional}
use Rattle.pox_outcomes.specs.Body.{IsBody}
use Rattle.pox_outcomes.specs.declared.answer.Major.{Major}
use Rattle.pox_outcomes.specs.declared.answer.Major.TheVariants.{Success, Processing, Failure, Unsupported}
use Rattle.pox_outcomes.specs.declared.answer.Answer.{Answer}
use Rattle.pox_outcomes.specs.declared.details.Details.{Details}

abbrev pub answer_root : List ℕ
answer_root = codes " <imsx_POXEnvelopeResponse"

abbrev pub answer_header : List ℕ
answer_header = codes " <imsx_POXHeader > <imsx_POXResponseHeaderInfo > <imsx_version > V1.0 </imsx_version > <imsx_messageIdentifier"

-- from behind the message identifier up to the end of the major code
abbrev pub majors : List (List ℕ)
majors =
    codes " <imsx_statusInfo > <imsx_codeMajor > success </imsx_codeMajor >"
    ∷ codes " <imsx_statusInfo > <imsx_codeMajor > processing </imsx_codeMajor >"
    ∷ codes " <imsx_statusInfo > <imsx_codeMajor > failure </imsx_codeMajor >"
    ∷ codes " <imsx_statusInfo > <imsx_codeMajor > unsupported </imsx_codeMajor >"
    ∷ []

abbrev pub major_place : Major → ℕ
major_place Success = 0
major_place Processing = 1
major_place Failure = 2
major_place Unsupported = 3

-- how the leaves behind the major code begin, in their order
abbrev pub severity_word : List ℕ
severity_word = codes " <imsx_severity"

abbrev pub description_word : List ℕ
description_word = codes " <imsx_description"

abbrev pub message_ref_word : List ℕ
message_ref_word = codes " <imsx_messageRefIdentifier"

abbrev pub operation_ref_word : List ℕ
operation_ref_word = codes " <imsx_operationRefIdentifier"

-- from behind these leaves up to the name of the body
abbrev pub status_end : List ℕ
status_end = codes " </imsx_statusInfo > </imsx_POXResponseHeaderInfo > </imsx_POXHeader > <imsx_POXBody"

abbrev pub response_end : List ℕ
response_end = codes " </imsx_POXEnvelopeResponse >"

-- the body, with what stands round it
abbrev pub IsEnded : List ℕ → List ℕ → Type 0
IsEnded score = IsMarkup status_end ▸ IsBody score ▸ IsMarkup response_end

-- what stands behind the major code
abbrev pub IsDetails : Details → List ℕ → Type 0
IsDetails d =
    IsOptional severity_word (codes "/imsx_severity >") d.severity
    (IsOptional description_word (codes "/imsx_description >") d.description
    (IsOptional message_ref_word (codes "/imsx_messageRefIdentifier >") d.message_ref
    (IsOptional operation_ref_word (codes "/imsx_operationRefIdentifier >") d.operation_ref (IsEnded d.score_text))))

abbrev pub details_of : Answer → Details
details_of a = record { severity = a.severity; description = a.description; message_ref = a.message_ref; operation_ref = a.operation_ref; score_text = a.score_text }

-- what stands behind the message identifier
abbrev pub IsStated : Major → Details → List ℕ → Type 0
IsStated major d = IsMarkup (word_at majors (major_place major)) ▸ IsDetails d

-- the answer from its declaration up to the end tag of its root
abbrev pub IsAnswer : Answer → List ℕ → Type 0
IsAnswer a = IsHead answer_root answer_header a.message ▸ IsStated a.major (details_of a)

-- the bytes are this answer, with any white bytes behind it
abbrev pub AnswerOf : List ℕ → Answer → Type 0
AnswerOf = DocumentOf IsAnswer
