-- A write that is on the disk before the next step: what it leaves of each image, at each moment.
use Rattle.std.proofs.Common.{ℕ, ◌+◌, ◌*◌, ◌≤◌, List, [], ◌∷◌, length, arith}
use Rattle.lti_outside.specs.Disk.{Holds, Torn, TornFrom}
use Rattle.lti_outside.specs.DiskMoments.{LeavesOnly}
use Rattle.lti_outside.specs.declared.disk.Disk.{Ghosts}
use Rattle.gate_journal.specs.Writes.{Wrote, Synced}
use Rattle.lti_outside.proofs.DiskMomentLemmas.{Each, LeavesOnly-weaken, LeavesOnly-then, Only-each}

-- An image has P before the write and while its range is torn, and Q once it is done, on a disk of two halves.
pub record Step (P Q : List ℕ → Type 0) (half place : ℕ) (bytes : List ℕ) : Type 0 where
  pub torn : (from image : List ℕ) → P from → Torn place (length bytes) from image → P image
  pub done : (from image : List ℕ) → 2 * half ≤ length from → P from → Torn place (length bytes) from image → Holds from place bytes image → Q image

-- a law of every disk: it is one of its images
abbrev pub Current : {D : Type 0} → Ghosts D → Type 0
Current {D = D} g = (d : D) → g.may_leave d (g.seen d)

module _ {D : Type 0} (g : Ghosts D) {P Q : List ℕ → Type 0} {half place : ℕ} {bytes : List ℕ} (step : Step P Q half place bytes) (d0 d1 : D) (each : Each g d0 P) (wrote : Wrote g place bytes d0 d1) where
  pub step_left : Each g d1 P
  step_left image left = let from = wrote.crash image left in step.torn from.0 image (each from.0 from.1) from.2

  pub step_moments : (R : List ℕ → Type 0) → ((image : List ℕ) → P image → R image) → LeavesOnly g d0 d1 R
  step_moments R says =
      LeavesOnly-weaken g d0 d1 (TornFrom place (length bytes) (g.may_leave d0)) R wrote.moments (λ image from. says image (step.torn from.0 image (each from.0 from.1) from.2))

  pub step_done : Current g → 2 * half ≤ length (g.seen d0) → Synced g place bytes d0 d1 → Each g d1 Q
  step_done current room synced =
      Only-each g d1 Q (step.done (g.seen d0) (g.seen d1) room (each (g.seen d0) (current d0)) wrote.torn synced.written) synced.durable

-- A gate that is opened in a write of its own, behind which bytes stand by then. R is what each image has at each
-- moment.
pub record Opens (P Q S R : List ℕ → Type 0) (half place : ℕ) (bytes : List ℕ) : Type 0 where
  pub writing : Step P Q half (place + 1) bytes
  pub opening : Step Q S half place (1 ∷ [])
  pub before : (image : List ℕ) → P image → R image
  pub between : (image : List ℕ) → Q image → R image

module _ {D : Type 0} (g : Ghosts D) {P Q S R : List ℕ → Type 0} {half place : ℕ} {bytes : List ℕ} (opens : Opens P Q S R half place bytes) (d0 d1 : D) (each : Each g d0 P) (wrote : Wrote g (place + 1) bytes d0 d1) where
  -- the bytes were not written
  pub unwritten : LeavesOnly g d0 d1 R × Each g d1 P
  unwritten = (step_moments g opens.writing d0 d1 each wrote R opens.before, step_left g opens.writing d0 d1 each wrote)

  module _ (current : Current g) (room : 2 * half ≤ length (g.seen d0)) (synced : Synced g (place + 1) bytes d0 d1) (d2 : D) (wrote' : Wrote g place (1 ∷ []) d1 d2) where
    staged : Each g d1 Q
    staged = step_done g opens.writing d0 d1 each wrote current room synced

    moments : LeavesOnly g d0 d2 R
    moments = LeavesOnly-then g d0 d1 d2 R R R unwritten.0 (step_moments g opens.opening d1 d2 staged wrote' R opens.between) (λ image here. here) (λ image here. here)

    -- they were, and the gate was not opened
    pub unopened : LeavesOnly g d0 d2 R × Each g d2 Q
    unopened = (moments, step_left g opens.opening d1 d2 staged wrote')

    -- it was
    pub opened : Synced g place (1 ∷ []) d1 d2 → LeavesOnly g d0 d2 R × Each g d2 S
    opened synced' = (moments, step_done g opens.opening d1 d2 staged wrote' current (omega (arith, wrote.torn.size, room)) synced')
