-- What a journal knows of each image of its disk, and what is in doubt.
use Rattle.std.specs.Prelude.{◌≡◌, ℕ, ◌+◌, ◌<◌, ◌≤◌, Bool, true, false, List, [], ◌∷◌, ◌++◌, length, drop}
use Rattle.gate_journal.specs.Half.{Place, base_of, other_base, blocks, framed, opens, generation_at, IsFilled}
use Rattle.gate_journal.specs.declared.doubt.Doubt.{Doubt}
use Rattle.gate_journal.specs.declared.doubt.Doubt.TheVariants.{Nothing, Piece, Half}

-- the head of the current half says what the place says
pub record IsOwn (image : List ℕ) (j : Place) (is_open : Bool) : Type 0 where
  pub gate : opens image (base_of j) ≡ is_open
  pub when_open : is_open ≡ true → generation_at image (base_of j) ≡ j.generation
  pub when_shut : is_open ≡ false → (j.second ≡ false) × (j.generation ≡ 0)

-- the other half isn't current, whatever its gate
pub record IsHarmless (image : List ℕ) (j : Place) : Type 0 where
  pub below : generation_at image (other_base j) ≤ j.generation
  pub strictly : j.second ≡ true → generation_at image (other_base j) < j.generation

-- The heads of both halves: is_open says whether the gate of the current half is open, and may_open whether that of
-- the other one may be, which then is harmless.
pub record HasHeads (image : List ℕ) (j : Place) (is_open may_open : Bool) : Type 0 where
  pub own : IsOwn image j is_open
  pub other_shut : may_open ≡ false → opens image (other_base j) ≡ false
  pub other_harmless : may_open ≡ true → (is_open ≡ true) × IsHarmless image j

-- the disk stands for the payloads
pub record Stands (image : List ℕ) (j : Place) (is_open may_open : Bool) (payloads : List (List ℕ)) : Type 0 where
  pub filled : IsFilled image (base_of j) j.half j.gate payloads
  pub heads : HasHeads image j is_open may_open

-- behind the payloads stands one more piece, whole, behind a gate that is open or isn't
pub record IsPieceInDoubt (image : List ℕ) (j : Place) (is_open may_open : Bool) (payloads : List (List ℕ)) (payload : List ℕ) : Type 0 where
  pub byte : ℕ
  pub rest : List ℕ
  pub bytes_are : drop (base_of j + 9) image ≡ blocks payloads ++ byte ∷ (framed payload ++ rest)
  pub ends : 9 + length (blocks payloads) ≡ j.gate
  pub inside : j.gate + 5 + length payload < j.half
  pub heads : HasHeads image j is_open may_open

-- the other half is filled by the packed payloads, behind a gate that is open or isn't
pub record IsHalfInDoubt (image : List ℕ) (j : Place) (is_open : Bool) (generation : ℕ) (payloads packed : List (List ℕ)) : Type 0 where
  pub filled : IsFilled image (base_of j) j.half j.gate payloads
  pub own : IsOwn image j is_open
  pub other : IsFilled image (other_base j) j.half (9 + length (blocks packed)) packed
  pub next : generation_at image (other_base j) ≡ generation
  pub above : j.generation < generation

-- where the gate in doubt stands on the disk
abbrev pub doubt_place : Doubt → Place → ℕ
doubt_place Nothing j = 0
doubt_place Piece j = base_of j + j.gate
doubt_place Half j = other_base j

-- a gate is in doubt: as it is read, the disk stands for the payloads or for the others
abbrev pub IsInDoubt : Doubt → List ℕ → Place → Bool → Bool → List (List ℕ) → List (List ℕ) → Type 0
IsInDoubt Nothing image j is_open may_open payloads others = ⊥
IsInDoubt Piece image j is_open may_open payloads others =
    (payload : List ℕ) × (others ≡ payloads ++ payload ∷ []) × IsPieceInDoubt image j is_open may_open payloads payload
IsInDoubt Half image j is_open may_open payloads others =
    (generation : ℕ) × (may_open ≡ false) × IsHalfInDoubt image j is_open generation payloads others
