-- A gate in doubt, whichever it is.
use Rattle.std.proofs.Common.{◌≡◌, ℕ, ◌+◌, ◌≤◌, Bool, List, [], ◌∷◌, refl, sym, subst, arith}
use Rattle.lti_outside.specs.DiskMoments.{LeavesOnly}
use Rattle.lti_outside.specs.declared.disk.Disk.{Ghosts}
use Rattle.lti_outside.proofs.DiskMomentLemmas.{Each}
use Rattle.gate_journal.specs.Half.{Place, base_of, other_base, IsEither}
use Rattle.gate_journal.specs.Doubt.{Stands, IsInDoubt, doubt_place}
use Rattle.gate_journal.specs.Journal.{place_of, MayKeep}
use Rattle.gate_journal.specs.declared.journal.Journal.{Journal}
use Rattle.gate_journal.specs.declared.doubt.Doubt.{Doubt}
use Rattle.gate_journal.specs.declared.doubt.Doubt.TheVariants.{Nothing, Piece, Half}
use Rattle.gate_journal.specs.Writes.{Wrote, Synced}
use Rattle.gate_journal.proofs.StepLemmas.{Step, Current, step_left, step_moments, step_done}
use Rattle.gate_journal.proofs.PieceLemmas as piece
use Rattle.gate_journal.proofs.PackedLemmas as packed

module _ (j : Place) (nine : 9 ≤ j.half) (is_open may_open : Bool) (payloads others : List (List ℕ)) where
  -- the disk stands for the payloads or for the others
  pub either : (doubt : Doubt) (image : List ℕ) → IsInDoubt doubt image j is_open may_open payloads others → IsEither j.half payloads others image
  either Nothing image is = absurd is
  either Piece image is =
      subst (λ (l : List (List ℕ)). IsEither j.half payloads l image) (sym is.1) (piece.piece_or_not j is_open may_open payloads is.0 (base_of j + j.gate) nine refl image is.2)
  either Half image is = packed.packed_or_not j is_open may_open payloads (other_base j) nine refl is.1 is.0 others image is.2

  -- the gate is closed: torn, it stays in doubt, and then it is no more
  closing : (doubt : Doubt) (place : ℕ) → place ≡ doubt_place doubt j → Step (λ image. IsInDoubt doubt image j is_open may_open payloads others) (λ image. Stands image j is_open may_open payloads) j.half place (0 ∷ [])
  closing Nothing place at = record { torn = λ from image is torn. absurd is; done = λ from image room is torn holds. absurd is }
  closing Piece place at = record {
    torn = λ from image is torn. (is.0, is.1, (piece.closing j is_open may_open payloads is.0 place nine at).torn from image is.2 torn);
    done = λ from image room is torn holds. (piece.closing j is_open may_open payloads is.0 place nine at).done from image room is.2 torn holds;
  }
  closing Half place at = record {
    torn = λ from image is torn. (is.0, is.1, (packed.closing j is_open may_open payloads place nine at is.1 is.0 others).torn from image is.2 torn);
    done = λ from image room is torn holds. (packed.closing j is_open may_open payloads place nine at is.1 is.0 others).done from image room is.2 torn holds;
  }

-- a repair, whether or not its write was done
module _ {D : Type 0} (g : Ghosts D) (m : Journal D g) (place : ℕ) (at : place ≡ doubt_place m.doubt (place_of m)) (payloads others : List (List ℕ)) (may : MayKeep m payloads others) (d1 : D) (wrote : Wrote g place (0 ∷ []) m.disk d1) where
  nine : 9 ≤ m.half
  nine = let some = m.some in omega (arith, some)

  abbrev InDoubt : List ℕ → Type 0
  InDoubt image = IsInDoubt m.doubt image (place_of m) m.is_open m.may_open payloads others

  abbrev Before : List ℕ → Type 0
  Before image = Stands image (place_of m) m.is_open m.may_open payloads

  step : Step InDoubt Before m.half place (0 ∷ [])
  step = closing (place_of m) nine m.is_open m.may_open payloads others m.doubt place at

  pub repair_moments : LeavesOnly g m.disk d1 (IsEither m.half payloads others)
  repair_moments = step_moments g step m.disk d1 may.each wrote (IsEither m.half payloads others) (either (place_of m) nine m.is_open m.may_open payloads others m.doubt)

  pub unrepaired : Each g d1 InDoubt
  unrepaired = step_left g step m.disk d1 may.each wrote

  pub repaired : Current g → Synced g place (0 ∷ []) m.disk d1 → Each g d1 Before
  repaired current synced = step_done g step m.disk d1 may.each wrote current m.room synced
