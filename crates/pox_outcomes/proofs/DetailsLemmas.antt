-- What an answer says behind its major code.
use Rattle.std.proofs.Common.{ℕ, zero, suc, ◌<◌, List, [], ◌∷◌, ◌++◌, refl, arith, codes}
use Rattle.pox_outcomes.specs.Language.{StopsAt, Reads, Any, IsOnce}
use Rattle.pox_outcomes.specs.Markup.{IsMarkup, word_at}
use Rattle.pox_outcomes.specs.Optional.{IsOptionalFront, ReadsOptional}
use Rattle.pox_outcomes.specs.Body.{IsBody}
use Rattle.pox_outcomes.specs.Answer.{severity_word, description_word, message_ref_word, operation_ref_word, status_end, response_end, IsEnded, IsDetails}
use Rattle.pox_outcomes.specs.declared.details.Details.{Details}
use Rattle.pox_outcomes.proofs.SequenceLemmas.{Some, Both, stops_named, once_named, behind_here, behind_on, behind_once, Before, before_some, before_here, before_on, before_once}
use Rattle.pox_outcomes.proofs.MarkupLemmas.{markup_one, free_markup}
use Rattle.pox_outcomes.proofs.BodyLemmas.{body_once, body_some}
use Rattle.pox_outcomes.proofs.OptionalLemmas.{IsStage, Opt, opt_stage, opt_here, opt_on, opt_once}

-- ---- the body, with what stands round it

abbrev Closed : List ℕ → List ℕ → Type 0
Closed = Before IsBody (IsMarkup response_end)

closed_some : Some (Any Closed)
closed_some = before_some IsBody (IsMarkup response_end) body_some (markup_one response_end)

ended_once : IsOnce IsEnded
ended_once = behind_once (IsMarkup status_end) Closed (free_markup status_end refl) (before_once IsBody (IsMarkup response_end) body_once (free_markup response_end refl))

pub ended_stops_status : {bytes : List ℕ} {n : ℕ} → StopsAt (IsMarkup status_end) bytes n → StopsAt (Any IsEnded) bytes n
ended_stops_status s = behind_here (IsMarkup status_end) Closed closed_some s

pub ended_stops_body : {bytes opened : List ℕ} {n : ℕ} → Reads (IsMarkup status_end) bytes opened → StopsAt (Any IsBody) opened n → StopsAt (Any IsEnded) bytes n
ended_stops_body r s = behind_on (IsMarkup status_end) Closed (free_markup status_end refl) r (before_here IsBody (IsMarkup response_end) (markup_one response_end) s)

pub ended_stops_end : {bytes opened closed : List ℕ} {n : ℕ} (score : List ℕ) → Reads (IsMarkup status_end) bytes opened → Reads (IsBody score) opened closed → StopsAt (IsMarkup response_end) closed n → StopsAt (Any IsEnded) bytes n
ended_stops_end score r b s = behind_on (IsMarkup status_end) Closed (free_markup status_end refl) r (before_on IsBody (IsMarkup response_end) body_once score b s)

ended_on : (place : ℕ) → place < 1 → (x : List ℕ) → IsMarkup (word_at (status_end ∷ []) place) x → (y : List ℕ) × Any IsEnded (x ++ y)
ended_on zero within x is = let b = closed_some in (b.0, (b.1.0, record { front = x; back = b.0; are = refl; first = is; second = b.1.1 }))
ended_on (suc place) within x is = absurd (omega (arith, within))

-- ---- the leaves, from the last to the first: their words, their families, and that what stands behind each is known

abbrev pub operation_closing : List ℕ
operation_closing = codes "/imsx_operationRefIdentifier >"

abbrev pub message_closing : List ℕ
message_closing = codes "/imsx_messageRefIdentifier >"

abbrev pub description_closing : List ℕ
description_closing = codes "/imsx_description >"

abbrev pub severity_closing : List ℕ
severity_closing = codes "/imsx_severity >"

abbrev last_words : List (List ℕ)
last_words = status_end ∷ []

abbrev operation_words : List (List ℕ)
operation_words = operation_ref_word ∷ last_words

abbrev message_words : List (List ℕ)
message_words = message_ref_word ∷ operation_words

abbrev description_words : List (List ℕ)
description_words = description_word ∷ message_words

abbrev severity_words : List (List ℕ)
severity_words = severity_word ∷ description_words

abbrev IsOperation : Both (List ℕ) (List ℕ) → List ℕ → Type 0
IsOperation = Opt operation_ref_word last_words operation_closing IsEnded

abbrev IsMessage : Both (List ℕ) (Both (List ℕ) (List ℕ)) → List ℕ → Type 0
IsMessage = Opt message_ref_word operation_words message_closing IsOperation

abbrev IsDescription : Both (List ℕ) (Both (List ℕ) (Both (List ℕ) (List ℕ))) → List ℕ → Type 0
IsDescription = Opt description_word message_words description_closing IsMessage

abbrev Values : Type 0
Values = Both (List ℕ) (Both (List ℕ) (Both (List ℕ) (Both (List ℕ) (List ℕ))))

abbrev IsSeverity : Values → List ℕ → Type 0
IsSeverity = Opt severity_word description_words severity_closing IsDescription

stage_ended : IsStage last_words (Any IsEnded)
stage_ended = record { begins = λ x h. (0, omega arith, h.1.front, h.1.back, h.1.are, h.1.first); goes_on = ended_on; some_word = omega arith }

stage_operation : IsStage operation_words (Any IsOperation)
stage_operation = opt_stage operation_ref_word last_words operation_closing IsEnded stage_ended

stage_message : IsStage message_words (Any IsMessage)
stage_message = opt_stage message_ref_word operation_words message_closing IsOperation stage_operation

stage_description : IsStage description_words (Any IsDescription)
stage_description = opt_stage description_word message_words description_closing IsMessage stage_message

-- ---- the details

abbrev details_from : Values → Details
details_from v = record { severity = v.one; description = v.other.one; message_ref = v.other.other.one; operation_ref = v.other.other.other.one; score_text = v.other.other.other.other }

abbrev values_of : Details → Values
values_of d = record { one = d.severity; other = record { one = d.description; other = record { one = d.message_ref; other = record { one = d.operation_ref; other = d.score_text } } } }

same_details : {bytes : List ℕ} {n : ℕ} → StopsAt (Any IsSeverity) bytes n → StopsAt (Any IsDetails) bytes n
same_details s = stops_named IsSeverity IsDetails details_from values_of (λ v x h. h) (λ d x h. h) s

pub details_once : IsOnce IsDetails
details_once =
    once_named IsSeverity IsDetails details_from values_of (λ d. refl) (λ d x h. h)
    (opt_once severity_word description_words severity_closing IsDescription stage_description refl refl
    (opt_once description_word message_words description_closing IsMessage stage_message refl refl
    (opt_once message_ref_word operation_words message_closing IsOperation stage_operation refl refl (opt_once operation_ref_word last_words operation_closing IsEnded stage_ended refl refl ended_once))))

pub details_some : Some (Any IsDetails)
details_some =
    let m = markup_one severity_word in
    let more = (opt_stage severity_word description_words severity_closing IsDescription stage_description).goes_on 0 (omega arith) m.0 m.1 in
    (m.0 ++ more.0, (details_from more.1.0, more.1.1))

-- ---- where reading stops, at each leaf and behind it

pub details_stops : {bytes : List ℕ} {n : ℕ} → StopsAt (IsOptionalFront severity_words severity_closing) bytes n → StopsAt (Any IsDetails) bytes n
details_stops s = same_details (opt_here severity_word description_words severity_closing IsDescription stage_description s)

pub behind_severity : {bytes rest : List ℕ} {n : ℕ} (text : List ℕ) → ReadsOptional severity_words severity_closing text bytes rest → StopsAt (Any IsDescription) rest n → StopsAt (Any IsDetails) bytes n
behind_severity text r s = same_details (opt_on severity_word description_words severity_closing IsDescription stage_description refl refl text r s)

pub description_stops : {bytes : List ℕ} {n : ℕ} → StopsAt (IsOptionalFront description_words description_closing) bytes n → StopsAt (Any IsDescription) bytes n
description_stops s = opt_here description_word message_words description_closing IsMessage stage_message s

pub behind_description : {bytes rest : List ℕ} {n : ℕ} (text : List ℕ) → ReadsOptional description_words description_closing text bytes rest → StopsAt (Any IsMessage) rest n → StopsAt (Any IsDescription) bytes n
behind_description text r s = opt_on description_word message_words description_closing IsMessage stage_message refl refl text r s

pub message_stops : {bytes : List ℕ} {n : ℕ} → StopsAt (IsOptionalFront message_words message_closing) bytes n → StopsAt (Any IsMessage) bytes n
message_stops s = opt_here message_ref_word operation_words message_closing IsOperation stage_operation s

pub behind_message : {bytes rest : List ℕ} {n : ℕ} (text : List ℕ) → ReadsOptional message_words message_closing text bytes rest → StopsAt (Any IsOperation) rest n → StopsAt (Any IsMessage) bytes n
behind_message text r s = opt_on message_ref_word operation_words message_closing IsOperation stage_operation refl refl text r s

pub operation_stops : {bytes : List ℕ} {n : ℕ} → StopsAt (IsOptionalFront operation_words operation_closing) bytes n → StopsAt (Any IsOperation) bytes n
operation_stops s = opt_here operation_ref_word last_words operation_closing IsEnded stage_ended s

pub behind_operation : {bytes rest : List ℕ} {n : ℕ} (text : List ℕ) → ReadsOptional operation_words operation_closing text bytes rest → StopsAt (Any IsEnded) rest n → StopsAt (Any IsOperation) bytes n
behind_operation text r s = opt_on operation_ref_word last_words operation_closing IsEnded stage_ended refl refl text r s
