-- Answers to outcome requests.
use Rattle.std.proofs.Common.{◌≡◌, ℕ, zero, suc, ◌<◌, List, refl, arith}
use Rattle.pox_outcomes.specs.Language.{StopsAt, Reads, Any, IsOnce}
use Rattle.pox_outcomes.specs.Markup.{IsMarkup, IsOneOf, word_at}
use Rattle.pox_outcomes.specs.Document.{IsHead}
use Rattle.pox_outcomes.specs.Answer.{answer_root, answer_header, majors, major_place, IsDetails, details_of, IsAnswer}
use Rattle.pox_outcomes.specs.declared.answer.Major.{Major}
use Rattle.pox_outcomes.specs.declared.answer.Major.TheVariants.{Success, Processing, Failure, Unsupported}
use Rattle.pox_outcomes.specs.declared.answer.Answer.{Answer}
use Rattle.pox_outcomes.specs.declared.details.Details.{Details}
use Rattle.pox_outcomes.proofs.SequenceLemmas.{Some, Both, stops_named, once_named, Pair, pair_some, pair_here, pair_on, pair_once}
use Rattle.pox_outcomes.proofs.MarkupLemmas.{markup_one}
use Rattle.pox_outcomes.proofs.ChoiceLemmas.{coded_once, coded_stops}
use Rattle.pox_outcomes.proofs.HeadLemmas.{head_once}
use Rattle.pox_outcomes.proofs.DetailsLemmas.{details_some, details_once}

-- ---- the major code

abbrev major_of : ℕ → Major
major_of zero = Success
major_of (suc zero) = Processing
major_of (suc (suc zero)) = Failure
major_of (suc (suc (suc place))) = Unsupported

place_back : (place : ℕ) → place < 4 → major_place (major_of place) ≡ place
place_back zero within = refl
place_back (suc zero) within = refl
place_back (suc (suc zero)) within = refl
place_back (suc (suc (suc zero))) within = refl
place_back (suc (suc (suc (suc place)))) within = absurd (omega arith)

major_back : (m : Major) → major_of (major_place m) ≡ m
major_back Success = refl
major_back Processing = refl
major_back Failure = refl
major_back Unsupported = refl

place_within : (m : Major) → major_place m < 4
place_within Success = omega arith
place_within Processing = omega arith
place_within Failure = omega arith
place_within Unsupported = omega arith

abbrev Codes : Major → List ℕ → Type 0
Codes m = IsMarkup (word_at majors (major_place m))

codes_once : IsOnce Codes
codes_once = coded_once majors refl major_place major_of major_back place_within place_back

-- ---- the answer

abbrev Stated : Both Major Details → List ℕ → Type 0
Stated = Pair Codes (λ major. IsDetails)

stated_some : Some (Any Stated)
stated_some = let m = markup_one (word_at majors 0) in pair_some Codes (λ major. IsDetails) (m.0, (Success, m.1)) (λ major. details_some)

abbrev Values : Type 0
Values = Both (List ℕ) (Both Major Details)

abbrev answer_of : Values → Answer
answer_of v = record {
  message = v.one;
  major = v.other.one;
  severity = v.other.other.severity;
  description = v.other.other.description;
  message_ref = v.other.other.message_ref;
  operation_ref = v.other.other.operation_ref;
  score_text = v.other.other.score_text;
}

abbrev values_of : Answer → Values
values_of a = record { one = a.message; other = record { one = a.major; other = details_of a } }

abbrev Whole : Values → List ℕ → Type 0
Whole = Pair (IsHead answer_root answer_header) (λ message. Stated)

same_answer : {bytes : List ℕ} {n : ℕ} → StopsAt (Any Whole) bytes n → StopsAt (Any IsAnswer) bytes n
same_answer s = stops_named Whole IsAnswer answer_of values_of (λ v x h. h) (λ a x h. h) s

pub answer_once : IsOnce IsAnswer
answer_once =
    once_named Whole IsAnswer answer_of values_of (λ a. refl) (λ a x h. h)
    (pair_once (IsHead answer_root answer_header) (λ message. Stated) (head_once answer_root answer_header refl refl) (λ message. pair_once Codes (λ major. IsDetails) codes_once (λ major. details_once)))

-- ---- where reading stops

pub answer_stops_head : {bytes : List ℕ} {n : ℕ} → StopsAt (Any (IsHead answer_root answer_header)) bytes n → StopsAt (Any IsAnswer) bytes n
answer_stops_head s = same_answer (pair_here (IsHead answer_root answer_header) (λ message. Stated) (λ message. stated_some) s)

behind_head : {bytes stated : List ℕ} {n : ℕ} (message : List ℕ) → Reads (IsHead answer_root answer_header message) bytes stated → StopsAt (Any Stated) stated n → StopsAt (Any IsAnswer) bytes n
behind_head message h s = same_answer (pair_on (IsHead answer_root answer_header) (λ message. Stated) (head_once answer_root answer_header refl refl) message h s)

pub answer_stops_major : {bytes stated : List ℕ} {n : ℕ} (message : List ℕ) → Reads (IsHead answer_root answer_header message) bytes stated → StopsAt (IsOneOf majors 4) stated n → StopsAt (Any IsAnswer) bytes n
answer_stops_major message h s =
    behind_head message h (pair_here Codes (λ major. IsDetails) (λ major. details_some) (coded_stops majors refl major_place major_of major_back place_within place_back s))

pub answer_stops_details : {bytes stated coded : List ℕ} {n : ℕ} (message : List ℕ) (major : Major) → Reads (IsHead answer_root answer_header message) bytes stated → Reads (Codes major) stated coded → StopsAt (Any IsDetails) coded n
    → StopsAt (Any IsAnswer) bytes n
answer_stops_details message major h c s = behind_head message h (pair_on Codes (λ major. IsDetails) codes_once major c s)
