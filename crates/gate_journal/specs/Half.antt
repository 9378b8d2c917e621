-- What the bytes of a disk stand for. The disk has two halves of one size. A half is a gate byte, a generation of
-- 8 bytes, and pieces from its place 9 on; a piece is a gate byte, a length of 4 bytes and the payload. Exactly 1 is
-- an open gate.
use Rattle.std.specs.Prelude.{◌≡◌, ◌≢◌, ◌⊎◌, ℕ, ◌+◌, ◌-◌, ◌^◌, ◌<◌, ◌≤◌, Bool, not, ◌&&◌, ◌||◌, ◌==◌, nat_lt, if◌then◌else◌, List, [], ◌∷◌, ◌++◌, length, take, drop, get_or}
use Rattle.std.specs.Int.{w32, w64, to_be_bytes, from_be_bytes}

-- where a journal stands: the size of a half, whether half 1 is current, its generation, and its end gate's place
-- in it
pub record Place : Type 0 where
  pub half : ℕ
  pub second : Bool
  pub generation : ℕ
  pub gate : ℕ

-- where the current half begins, and where the other one does
abbrev pub base_of : Place → ℕ
base_of j = if j.second then j.half else 0

abbrev pub other_base : Place → ℕ
other_base j = if j.second then 0 else j.half

-- how many bytes a further payload may have
abbrev pub free_of : Place → ℕ
free_of j = j.half - j.gate - 6

-- one piece on, with a payload of n bytes
abbrev pub next_place : Place → ℕ → Place
next_place j n = record j { gate = j.gate + 5 + n }

-- in the other half, with that generation and pieces of n bytes
abbrev pub packed_place : Place → ℕ → ℕ → Place
packed_place j generation n = record { half = j.half; second = not j.second; generation = generation; gate = 9 + n }

-- a length in 4 bytes
abbrev pub length_bytes : ℕ → List ℕ
length_bytes n = to_be_bytes w32 n

-- open pieces, one after another
abbrev pub blocks : List (List ℕ) → List ℕ
blocks [] = []
blocks (payload ∷ payloads) = 1 ∷ (length_bytes (length payload) ++ payload ++ blocks payloads)

-- what a commit writes behind a gate: the length, the payload and a closed gate
abbrev pub framed : List ℕ → List ℕ
framed payload = length_bytes (length payload) ++ payload ++ 0 ∷ []

-- the payload of such bytes
abbrev pub payload_of : List ℕ → List ℕ
payload_of bytes = take (length bytes - 5) (drop 4 bytes)

-- bytes that `frame` gives
pub record IsFrame (bytes : List ℕ) : Type 0 where
  pub bytes_are : bytes ≡ framed (payload_of bytes)
  pub not_empty : 1 ≤ length (payload_of bytes)
  pub short : length (payload_of bytes) < 2 ^ 32

-- what a compaction writes behind the gate of the other half: the generation, the open pieces and a closed gate
abbrev pub packed_of : ℕ → List (List ℕ) → List ℕ
packed_of generation payloads = to_be_bytes w64 generation ++ blocks payloads ++ 0 ∷ []

-- the generation of such bytes
abbrev pub packed_generation : List ℕ → ℕ
packed_generation bytes = from_be_bytes w64 (take 8 bytes)

-- bytes that `pack` gives for that generation
pub record IsPacked (generation : ℕ) (bytes : List ℕ) : Type 0 where
  pub pieces : List (List ℕ)
  pub bytes_are : bytes ≡ packed_of generation pieces
  pub small : generation < 2 ^ 64

-- whether the half that begins here is open, and its generation
abbrev pub opens : List ℕ → ℕ → Bool
opens image base = get_or image base 0 == 1

abbrev pub generation_at : List ℕ → ℕ → ℕ
generation_at image base = from_be_bytes w64 (take 8 (drop (base + 1) image))

-- By the gates a, b and the generations m, n of the halves, whether half 1 is current, and the current generation:
-- the open half of greater generation, half 0 where they are equal, and half 0 with generation 0 where none is open.
abbrev pub picks_second : Bool → Bool → ℕ → ℕ → Bool
picks_second a b m n = b && (not a || nat_lt m n)

abbrev pub picked : Bool → Bool → ℕ → ℕ → ℕ
picked a b m n = if picks_second a b m n then n else (if a then m else 0)

-- the current half of a disk
pub record IsCurrent (image : List ℕ) (j : Place) : Type 0 where
  pub which : j.second ≡ picks_second (opens image 0) (opens image j.half) (generation_at image 0) (generation_at image j.half)
  pub generation : j.generation ≡ picked (opens image 0) (opens image j.half) (generation_at image 0) (generation_at image j.half)

-- the payloads fill the half that begins at base, up to a gate inside it that isn't open
pub record IsFilled (image : List ℕ) (base half gate : ℕ) (payloads : List (List ℕ)) : Type 0 where
  pub byte : ℕ
  pub rest : List ℕ
  pub bytes_are : drop (base + 9) image ≡ blocks payloads ++ byte ∷ rest
  pub ends : 9 + length (blocks payloads) ≡ gate
  pub inside : gate < half
  pub closed : byte ≢ 1

-- the disk stands for these payloads
pub record Recovers (image : List ℕ) (j : Place) (payloads : List (List ℕ)) : Type 0 where
  pub current : IsCurrent image j
  pub filled : IsFilled image (base_of j) j.half j.gate payloads

-- the same, whichever half is current
abbrev pub StandsFor : List ℕ → ℕ → List (List ℕ) → Type 0
StandsFor image half payloads = (j : Place) × (j.half ≡ half) × Recovers image j payloads

-- the disk stands for these payloads or for those
abbrev pub IsEither : ℕ → List (List ℕ) → List (List ℕ) → List ℕ → Type 0
IsEither half payloads others image = StandsFor image half payloads ⊎ StandsFor image half others

-- pieces fill the half that begins at base, up to an open gate before a piece that passes the half's end
pub record IsPassed (image : List ℕ) (base half gate : ℕ) : Type 0 where
  pub payloads : List (List ℕ)
  pub rest : List ℕ
  pub bytes_are : drop (base + 9) image ≡ blocks payloads ++ 1 ∷ rest
  pub ends : 9 + length (blocks payloads) ≡ gate
  pub inside : gate < half
  pub passes : half < gate + 6 + from_be_bytes w32 (take 4 rest)

-- the current half is damaged so
pub record IsDamaged (image : List ℕ) (j : Place) : Type 0 where
  pub current : IsCurrent image j
  pub passed : IsPassed image (base_of j) j.half j.gate

-- and that gate has this place on the disk
abbrev pub IsDamagedAt : List ℕ → ℕ → ℕ → Type 0
IsDamagedAt image half at = (j : Place) × (j.half ≡ half) × (at ≡ base_of j + j.gate) × IsDamaged image j
