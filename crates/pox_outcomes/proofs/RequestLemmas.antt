-- What an outcome request says behind its message identifier.
use Rattle.std.proofs.Common.{◌≡◌, ℕ, zero, suc, ◌<◌, List, [], refl, sym, ◌∙◌, arith, codes}
use Rattle.pox_outcomes.specs.Language.{StopsAt, Any, IsOnce}
use Rattle.pox_outcomes.specs.Markup.{IsMarkup, IsOneOf, word_at}
use Rattle.pox_outcomes.specs.Leaves.{IsLeaf}
use Rattle.pox_outcomes.specs.Request.{operations, place_of, scores, replace_end, read_end, delete_end, IsTail}
use Rattle.pox_outcomes.specs.declared.outcome.Operation.{Operation}
use Rattle.pox_outcomes.specs.declared.outcome.Operation.TheVariants.{ReplaceResult, ReadResult, DeleteResult}
use Rattle.pox_outcomes.proofs.SequenceLemmas.{Some, Both, Pair, pair_some, pair_once}
use Rattle.pox_outcomes.proofs.MarkupLemmas.{markup_one, free_markup}
use Rattle.pox_outcomes.proofs.ChoiceLemmas.{coded_once, coded_stops}
use Rattle.pox_outcomes.proofs.LeafLemmas.{leaf_some, leaf_once}
use Rattle.pox_outcomes.proofs.ScoreLemmas.{score_some, score_once}

-- ---- the operation's word

abbrev operation_of : ℕ → Operation
operation_of zero = ReplaceResult
operation_of (suc zero) = ReadResult
operation_of (suc (suc place)) = DeleteResult

place_back : (place : ℕ) → place < 3 → place_of (operation_of place) ≡ place
place_back zero within = refl
place_back (suc zero) within = refl
place_back (suc (suc zero)) within = refl
place_back (suc (suc (suc place))) within = absurd (omega arith)

operation_back : (o : Operation) → operation_of (place_of o) ≡ o
operation_back ReplaceResult = refl
operation_back ReadResult = refl
operation_back DeleteResult = refl

place_within : (o : Operation) → place_of o < 3
place_within ReplaceResult = omega arith
place_within ReadResult = omega arith
place_within DeleteResult = omega arith

abbrev pub Asks : Operation → List ℕ → Type 0
Asks o = IsMarkup (word_at operations (place_of o))

pub asks_once : IsOnce Asks
asks_once = coded_once operations refl place_of operation_of operation_back place_within place_back

pub asks_stops : {bytes : List ℕ} {n : ℕ} → StopsAt (IsOneOf operations 3) bytes n → StopsAt (Any Asks) bytes n
asks_stops s = coded_stops operations refl place_of operation_of operation_back place_within place_back s

-- ---- what stands behind it

pub tail_some : (operation : Operation) → Some (Any (IsTail operation))
tail_some ReplaceResult = score_some scores replace_end refl refl
tail_some ReadResult = let m = markup_one read_end in (m.0, ([], (refl, m.1)))
tail_some DeleteResult = let m = markup_one delete_end in (m.0, ([], (refl, m.1)))

tail_once : (operation : Operation) → IsOnce (IsTail operation)
tail_once ReplaceResult = score_once scores replace_end refl refl refl
tail_once ReadResult = λ t u x y r s a b e. (a.0 ∙ sym b.0, free_markup read_end refl x y r s a.1 b.1 e)
tail_once DeleteResult = λ t u x y r s a b e. (a.0 ∙ sym b.0, free_markup delete_end refl x y r s a.1 b.1 e)

abbrev pub Id : List ℕ → List ℕ → Type 0
Id = IsLeaf (codes "/sourcedId >")

abbrev pub Identified : Operation → Both (List ℕ) (List ℕ) → List ℕ → Type 0
Identified o = Pair Id (λ id. IsTail o)

abbrev pub Asked : Both Operation (Both (List ℕ) (List ℕ)) → List ℕ → Type 0
Asked = Pair Asks Identified

pub identified_some : (o : Operation) → Some (Any (Identified o))
identified_some o = pair_some Id (λ id. IsTail o) (leaf_some (codes "/sourcedId >")) (λ id. tail_some o)

pub asked_some : Some (Any Asked)
asked_some = let m = markup_one (word_at operations 0) in pair_some Asks Identified (m.0, (ReplaceResult, m.1)) identified_some

pub asked_once : IsOnce Asked
asked_once = pair_once Asks Identified asks_once (λ o. pair_once Id (λ id. IsTail o) (leaf_once (codes "/sourcedId >") refl) (λ id. tail_once o))
