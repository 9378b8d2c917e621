-- The one answer to each request (LTI 1.1.1, section 6, and the schema imsoms_v1p0).
use Rattle.std.specs.Prelude.{ℕ, ◌+◌, ◌*◌, true, false, List, [], ◌∷◌, ◌++◌, length, codes}
use Rattle.score_decimal.specs.Printed.{score_text}
use Rattle.pox_outcomes.specs.Written.{escape_part, escape_text}
use Rattle.pox_outcomes.specs.declared.outcome.Operation.{Operation}
use Rattle.pox_outcomes.specs.declared.outcome.Operation.TheVariants.{ReplaceResult, ReadResult, DeleteResult}
use Rattle.pox_outcomes.specs.declared.outcome.Outcome.{Outcome}
use Rattle.pox_outcomes.specs.declared.told.Told.{Told}
use Rattle.pox_outcomes.specs.declared.told.Told.TheVariants.{Replaced, ReadScore, ReadNothing, Deleted, UnknownId, BadScore}

-- what is told is an answer to the operation
abbrev pub Belongs : Operation → Told → Type 0
Belongs ReplaceResult (Replaced score) = Unit {0}
Belongs ReplaceResult BadScore = Unit {0}
Belongs ReplaceResult UnknownId = Unit {0}
Belongs ReadResult (ReadScore score) = Unit {0}
Belongs ReadResult ReadNothing = Unit {0}
Belongs ReadResult UnknownId = Unit {0}
Belongs DeleteResult Deleted = Unit {0}
Belongs DeleteResult UnknownId = Unit {0}
Belongs operation told = ⊥

abbrev pub answer_start : List ℕ
answer_start =
    codes "<?xml version=\"1.0\" encoding=\"UTF-8\"?><imsx_POXEnvelopeResponse xmlns=\"http://www.imsglobal.org/services/ltiv1p1/xsd/imsoms_v1p0\"><imsx_POXHeader><imsx_POXResponseHeaderInfo><imsx_version>V1.0</imsx_version><imsx_messageIdentifier>"

abbrev pub success : List ℕ
success = codes "</imsx_messageIdentifier><imsx_statusInfo><imsx_codeMajor>success</imsx_codeMajor><imsx_severity>status</imsx_severity><imsx_description>"

abbrev pub failure : List ℕ
failure = codes "</imsx_messageIdentifier><imsx_statusInfo><imsx_codeMajor>failure</imsx_codeMajor><imsx_severity>error</imsx_severity><imsx_description>"

abbrev pub status : Told → List ℕ
status (Replaced score) = success
status (ReadScore score) = success
status ReadNothing = success
status Deleted = success
status UnknownId = failure
status BadScore = failure

-- The description written. Where the id ends it, the space before the id belongs to its edge if the id is empty.
abbrev pub description : Told → List ℕ → List ℕ
description (Replaced score) id = codes "Score for " ++ escape_part false false id ++ codes " is now " ++ score_text score
description (ReadScore score) id = codes "Score for " ++ escape_part false false id ++ codes " is " ++ score_text score
description ReadNothing id = codes "No score for" ++ escape_part false true (32 ∷ id)
description Deleted id = codes "Score for " ++ escape_part false false id ++ codes " is deleted"
description UnknownId id = codes "Unknown sourcedId" ++ escape_part false true (32 ∷ id)
description BadScore id = codes "Score for " ++ escape_part false false id ++ codes " is no number from 0 to 1"

abbrev pub operation_name : Operation → List ℕ
operation_name ReplaceResult = codes "replaceResult"
operation_name ReadResult = codes "readResult"
operation_name DeleteResult = codes "deleteResult"

-- the empty element that answers the operation
abbrev pub empty_response : Operation → List ℕ
empty_response ReplaceResult = codes "<replaceResultResponse/>"
empty_response ReadResult = codes "<readResultResponse/>"
empty_response DeleteResult = codes "<deleteResultResponse/>"

abbrev pub read_response : List ℕ → List ℕ
read_response score =
    codes "<readResultResponse><result><resultScore><language>en</language><textString>" ++ score
    ++ codes "</textString></resultScore></result></readResultResponse>"

-- what the body holds
abbrev pub response : Operation → Told → List ℕ
response operation (Replaced score) = empty_response operation
response operation (ReadScore score) = read_response (score_text score)
response operation ReadNothing = read_response []
response operation Deleted = empty_response operation
response operation UnknownId = empty_response operation
response operation BadScore = empty_response operation

abbrev pub referring : List ℕ
referring = codes "</imsx_description><imsx_messageRefIdentifier>"

abbrev pub operating : List ℕ
operating = codes "</imsx_messageRefIdentifier><imsx_operationRefIdentifier>"

abbrev pub answering : List ℕ
answering = codes "</imsx_operationRefIdentifier></imsx_statusInfo></imsx_POXResponseHeaderInfo></imsx_POXHeader><imsx_POXBody>"

abbrev pub answer_end : List ℕ
answer_end = codes "</imsx_POXBody></imsx_POXEnvelopeResponse>"

-- the answer that tells what became of the outcome
abbrev pub answer_text : Outcome → Told → List ℕ
answer_text o told =
    answer_start ++ escape_text o.message ++ status told ++ description told o.sourced_id ++ referring ++ escape_text o.message
    ++ operating ++ operation_name o.operation ++ answering ++ response o.operation told ++ answer_end

-- room enough for any answer to the outcome
abbrev pub room_of : Outcome → ℕ
room_of o = 2048 + 10 * length o.message + 5 * length o.sourced_id
