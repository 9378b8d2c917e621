-- The one text of each envelope (LTI 1.1.1, section 6, and the schema imsoms_v1p0).
use Rattle.std.specs.Prelude.{◌≡◌, ℕ, Bool, true, false, ◌||◌, ◌&&◌, ◌==◌, List, [], ◌∷◌, ◌++◌, length, codes, if◌then◌else◌}
use Rattle.pox_outcomes.specs.Characters.{IsCharacter}
use Rattle.pox_outcomes.specs.declared.outcome.Operation.{Operation}
use Rattle.pox_outcomes.specs.declared.outcome.Operation.TheVariants.{ReplaceResult, ReadResult, DeleteResult}
use Rattle.pox_outcomes.specs.declared.outcome.Outcome.{Outcome}

-- Allowed characters, one after another.
pub data IsXmlText : List ℕ → Type 0 where
  none : {bytes : List ℕ} → bytes ≡ [] → IsXmlText bytes
  one : {bytes : List ℕ} (character rest : List ℕ) → IsCharacter character → IsXmlText rest → bytes ≡ character ++ rest → IsXmlText bytes

-- how a byte of a text is written, at its edge or inside of it
abbrev pub escape_byte : Bool → ℕ → List ℕ
escape_byte edge b =
    if b == 38 then codes "&amp;"
    else (if b == 60 then codes "&lt;"
    else (if b == 62 then codes "&gt;"
    else (if b == 9 then codes "&#9;"
    else (if b == 10 then codes "&#10;"
    else (if b == 13 then codes "&#13;"
    else (if b == 32 && edge then codes "&#32;"
    else b ∷ []))))))

-- Part of a text written, where `first` and `last` say whether the text begins and ends with the part.
unfoldable pub escape_part : Bool → Bool → List ℕ → List ℕ
escape_part first last [] = []
escape_part first last (b ∷ text) = escape_byte (first || (last && length text == 0)) b ++ escape_part false last text

abbrev pub escape_text : List ℕ → List ℕ
escape_text text = escape_part true true text

abbrev pub declaration : List ℕ
declaration = codes "<?xml version=\"1.0\" encoding=\"UTF-8\"?>"

abbrev pub request_start : List ℕ
request_start =
    declaration
    ++ codes "<imsx_POXEnvelopeRequest xmlns=\"http://www.imsglobal.org/services/ltiv1p1/xsd/imsoms_v1p0\"><imsx_POXHeader><imsx_POXRequestHeaderInfo><imsx_version>V1.0</imsx_version><imsx_messageIdentifier>"

-- between the message identifier and the id
abbrev pub asked : Operation → List ℕ
asked ReplaceResult = codes "</imsx_messageIdentifier></imsx_POXRequestHeaderInfo></imsx_POXHeader><imsx_POXBody><replaceResultRequest><resultRecord><sourcedGUID><sourcedId>"
asked ReadResult = codes "</imsx_messageIdentifier></imsx_POXRequestHeaderInfo></imsx_POXHeader><imsx_POXBody><readResultRequest><resultRecord><sourcedGUID><sourcedId>"
asked DeleteResult = codes "</imsx_messageIdentifier></imsx_POXRequestHeaderInfo></imsx_POXHeader><imsx_POXBody><deleteResultRequest><resultRecord><sourcedGUID><sourcedId>"

-- what stands behind the id
abbrev pub request_end : Operation → List ℕ → List ℕ
request_end ReplaceResult score =
    codes "</sourcedId></sourcedGUID><result><resultScore><language>en</language><textString>" ++ escape_text score
    ++ codes "</textString></resultScore></result></resultRecord></replaceResultRequest></imsx_POXBody></imsx_POXEnvelopeRequest>"
request_end ReadResult score = codes "</sourcedId></sourcedGUID></resultRecord></readResultRequest></imsx_POXBody></imsx_POXEnvelopeRequest>"
request_end DeleteResult score = codes "</sourcedId></sourcedGUID></resultRecord></deleteResultRequest></imsx_POXBody></imsx_POXEnvelopeRequest>"

-- the envelope that asks for the outcome
abbrev pub request_text : Outcome → List ℕ
request_text o = request_start ++ escape_text o.message ++ asked o.operation ++ escape_text o.sourced_id ++ request_end o.operation o.score_text

-- each text holds allowed characters alone
pub record IsXml (o : Outcome) : Type 0 where
  pub message : IsXmlText o.message
  pub sourced_id : IsXmlText o.sourced_id
  pub score_text : IsXmlText o.score_text
