-- Outcome requests (LTI 1.1.1, section 6, and the schema imsoms_v1p0). In markup a space stands for any white bytes.
use Rattle.std.specs.Prelude.{◌≡◌, ℕ, List, [], ◌∷◌, codes}
use Rattle.pox_outcomes.specs.Language.{◌▸◌}
use Rattle.pox_outcomes.specs.Markup.{IsMarkup, word_at}
use Rattle.pox_outcomes.specs.Leaves.{IsLeaf}
use Rattle.pox_outcomes.specs.Document.{IsHead, DocumentOf}
use Rattle.pox_outcomes.specs.Scores.{IsScored}
use Rattle.pox_outcomes.specs.declared.outcome.Operation.{Operation}
use Rattle.pox_outcomes.specs.declared.outcome.Operation.TheVariants.{ReplaceResult, ReadResult, DeleteResult}
use Rattle.pox_outcomes.specs.declared.outcome.Outcome.{Outcome}

abbrev pub root : List ℕ
root = codes " <imsx_POXEnvelopeRequest"

abbrev pub header : List ℕ
header = codes " <imsx_POXHeader > <imsx_POXRequestHeaderInfo > <imsx_version > V1.0 </imsx_version > <imsx_messageIdentifier"

-- from behind the message identifier up to the id, for each operation
abbrev pub operations : List (List ℕ)
operations =
    codes " </imsx_POXRequestHeaderInfo > </imsx_POXHeader > <imsx_POXBody > <replaceResultRequest > <resultRecord > <sourcedGUID > <sourcedId"
    ∷ codes " </imsx_POXRequestHeaderInfo > </imsx_POXHeader > <imsx_POXBody > <readResultRequest > <resultRecord > <sourcedGUID > <sourcedId"
    ∷ codes " </imsx_POXRequestHeaderInfo > </imsx_POXHeader > <imsx_POXBody > <deleteResultRequest > <resultRecord > <sourcedGUID > <sourcedId"
    ∷ []

abbrev pub place_of : Operation → ℕ
place_of ReplaceResult = 0
place_of ReadResult = 1
place_of DeleteResult = 2

-- from behind the id up to the text string, with or without a language
abbrev pub scores : List (List ℕ)
scores = codes " </sourcedGUID > <result > <resultScore > <language" ∷ codes " </sourcedGUID > <result > <resultScore > <textString" ∷ []

abbrev pub replace_end : List ℕ
replace_end = codes " </resultScore > </result > </resultRecord > </replaceResultRequest > </imsx_POXBody > </imsx_POXEnvelopeRequest >"

abbrev pub read_end : List ℕ
read_end = codes " </sourcedGUID > </resultRecord > </readResultRequest > </imsx_POXBody > </imsx_POXEnvelopeRequest >"

abbrev pub delete_end : List ℕ
delete_end = codes " </sourcedGUID > </resultRecord > </deleteResultRequest > </imsx_POXBody > </imsx_POXEnvelopeRequest >"

-- the end of a request without a score
abbrev pub IsNoScore : List ℕ → List ℕ → List ℕ → Type 0
IsNoScore end score bytes = (score ≡ []) × IsMarkup end bytes

-- what stands behind the id
abbrev pub IsTail : Operation → List ℕ → List ℕ → Type 0
IsTail ReplaceResult = IsScored scores replace_end
IsTail ReadResult = IsNoScore read_end
IsTail DeleteResult = IsNoScore delete_end

-- what stands behind the message identifier
abbrev pub IsAsked : Operation → List ℕ → List ℕ → List ℕ → Type 0
IsAsked operation id score = IsMarkup (word_at operations (place_of operation)) ▸ IsLeaf (codes "/sourcedId >") id ▸ IsTail operation score

-- the envelope from its declaration up to the end tag of its root
abbrev pub IsEnvelope : Outcome → List ℕ → Type 0
IsEnvelope o = IsHead root header o.message ▸ IsAsked o.operation o.sourced_id o.score_text

-- the bytes are an envelope of this outcome, with any white bytes behind it
abbrev pub EnvelopeOf : List ℕ → Outcome → Type 0
EnvelopeOf = DocumentOf IsEnvelope
