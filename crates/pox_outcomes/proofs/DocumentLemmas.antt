-- Outcome requests as a whole.
use Rattle.std.proofs.Common.{ℕ, List, refl, codes}
use Rattle.pox_outcomes.specs.Language.{StopsAt, Reads, Any, IsOnce}
use Rattle.pox_outcomes.specs.Markup.{IsOneOf}
use Rattle.pox_outcomes.specs.Document.{IsHead}
use Rattle.pox_outcomes.specs.Request.{root, header, operations, IsTail, IsEnvelope}
use Rattle.pox_outcomes.specs.declared.outcome.Operation.{Operation}
use Rattle.pox_outcomes.specs.declared.outcome.Outcome.{Outcome}
use Rattle.pox_outcomes.proofs.SequenceLemmas.{Both, stops_named, once_named, Pair, pair_here, pair_on, pair_once}
use Rattle.pox_outcomes.proofs.LeafLemmas.{leaf_once}
use Rattle.pox_outcomes.proofs.HeadLemmas.{head_once}
use Rattle.pox_outcomes.proofs.RequestLemmas.{Asks, asks_once, asks_stops, Id, Identified, identified_some, tail_some, Asked, asked_some, asked_once}

abbrev Values : Type 0
Values = Both (List ℕ) (Both Operation (Both (List ℕ) (List ℕ)))

abbrev outcome_of : Values → Outcome
outcome_of v = record { message = v.one; operation = v.other.one; sourced_id = v.other.other.one; score_text = v.other.other.other }

abbrev values_of : Outcome → Values
values_of o = record { one = o.message; other = record { one = o.operation; other = record { one = o.sourced_id; other = o.score_text } } }

abbrev Whole : Values → List ℕ → Type 0
Whole = Pair (IsHead root header) (λ message. Asked)

same_envelope : {bytes : List ℕ} {n : ℕ} → StopsAt (Any Whole) bytes n → StopsAt (Any IsEnvelope) bytes n
same_envelope s = stops_named Whole IsEnvelope outcome_of values_of (λ v x h. h) (λ o x h. h) s

pub envelope_once : IsOnce IsEnvelope
envelope_once =
    once_named Whole IsEnvelope outcome_of values_of (λ o. refl) (λ o x h. h)
    (pair_once (IsHead root header) (λ message. Asked) (head_once root header refl refl) (λ message. asked_once))

-- ---- where reading stops

pub envelope_stops_head : {bytes : List ℕ} {n : ℕ} → StopsAt (Any (IsHead root header)) bytes n → StopsAt (Any IsEnvelope) bytes n
envelope_stops_head s = same_envelope (pair_here (IsHead root header) (λ message. Asked) (λ message. asked_some) s)

behind_head : {bytes asked : List ℕ} {n : ℕ} (message : List ℕ) → Reads (IsHead root header message) bytes asked → StopsAt (Any Asked) asked n → StopsAt (Any IsEnvelope) bytes n
behind_head message h s = same_envelope (pair_on (IsHead root header) (λ message. Asked) (head_once root header refl refl) message h s)

pub envelope_stops_operation : {bytes asked : List ℕ} {n : ℕ} (message : List ℕ) → Reads (IsHead root header message) bytes asked → StopsAt (IsOneOf operations 3) asked n → StopsAt (Any IsEnvelope) bytes n
envelope_stops_operation message h s = behind_head message h (pair_here Asks Identified identified_some (asks_stops s))

behind_word : {bytes asked identified : List ℕ} {n : ℕ} (message : List ℕ) (o : Operation) → Reads (IsHead root header message) bytes asked → Reads (Asks o) asked identified → StopsAt (Any (Identified o)) identified n → StopsAt (Any IsEnvelope) bytes n
behind_word message o h w s = behind_head message h (pair_on Asks Identified asks_once o w s)

pub envelope_stops_id : {bytes asked identified : List ℕ} {n : ℕ} (message : List ℕ) (o : Operation) → Reads (IsHead root header message) bytes asked → Reads (Asks o) asked identified → StopsAt (Any Id) identified n → StopsAt (Any IsEnvelope) bytes n
envelope_stops_id message o h w s = behind_word message o h w (pair_here Id (λ id. IsTail o) (λ id. tail_some o) s)

pub envelope_stops_tail : {bytes asked identified scored : List ℕ} {n : ℕ} (message : List ℕ) (o : Operation) (id : List ℕ) → Reads (IsHead root header message) bytes asked → Reads (Asks o) asked identified → Reads (Id id) identified scored
    → StopsAt (Any (IsTail o)) scored n → StopsAt (Any IsEnvelope) bytes n
envelope_stops_tail message o id h w i s = behind_word message o h w (pair_on Id (λ id. IsTail o) (leaf_once (codes "/sourcedId >") refl) id i s)
