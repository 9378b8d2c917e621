-- What taking bytes from a connection does.
use Rattle.std.specs.Prelude.{◌≡◌, ◌<◌, ◌≤◌, ◌⊎◌, ◌==◌, false, All, ℕ, List, [], ◌∷◌, ◌++◌, length, take, ⊤, Option, None, Some, Result, Ok, Err}
use Rattle.lti_outside.specs.Held.{Held}
use Rattle.http_wire.specs.declared.fault.WireFault.{WireFault}
use Rattle.http_wire.specs.declared.fault.WireFault.TheVariants.{HeadTooLong, CutShort, ReadFault, NoMemory}
use Rattle.http_wire.specs.Shape.{HasNoHead, IsHead}

-- no byte is a line feed
abbrev pub HasNoLineFeed : List ℕ → Type 0
HasNoLineFeed bytes = All (λ b. (b == 10) ≡ false) bytes

-- no bytes, or bytes of which none but the last is a line feed
abbrev pub IsRun : List ℕ → Type 0
IsRun piece = (piece ≡ []) ⊎ ((front : List ℕ) × (last : ℕ) × (piece ≡ front ++ last ∷ []) × HasNoLineFeed front)

-- the next bytes were handed on to a list, and are a piece of this kind; none of them only at the end
abbrev pub HandTells : (List ℕ → Type 0) → ℕ → List ℕ → List ℕ → List ℕ → List ℕ → Type 0 → Result ℕ WireFault → Type 0
HandTells kind most bytes kept before after ended (Ok count) =
    (piece : List ℕ) × (bytes ≡ piece ++ kept) × (after ≡ before ++ piece) × (length piece ≡ count) × (count ≤ most)
    × kind piece × (count ≡ 0 → (bytes ≡ []) × ended)
HandTells kind most bytes kept before after ended (Err ReadFault) = (bytes ≡ []) × (after ≡ before)
HandTells kind most bytes kept before after ended (Err NoMemory) = ⊤
HandTells kind most bytes kept before after ended (Err fault) = ⊥

-- a head stands at the front of the bytes, within the limit
abbrev pub HeadTaken : ℕ → List ℕ → List ℕ → Type 0 → Result (Option Held) WireFault → Type 0
HeadTaken most bytes kept ended (Ok (Some head)) = IsHead head.list × (length head.list ≤ most) × (bytes ≡ head.list ++ kept)
HeadTaken most bytes kept ended (Ok None) = (bytes ≡ []) × (kept ≡ []) × ended
HeadTaken most bytes kept ended (Err HeadTooLong) = (most ≤ length bytes) × HasNoHead (take most bytes)
HeadTaken most bytes kept ended (Err CutShort) = (0 < length bytes) × (length bytes < most) × HasNoHead bytes × ended
HeadTaken most bytes kept ended (Err ReadFault) = HasNoHead bytes
HeadTaken most bytes kept ended (Err NoMemory) = ⊤
HeadTaken most bytes kept ended (Err fault) = ⊥

-- so many bytes stand at the front
abbrev pub BodyTaken : ℕ → List ℕ → List ℕ → Type 0 → Result Held WireFault → Type 0
BodyTaken count bytes kept ended (Ok body) = (length body.list ≡ count) × (bytes ≡ body.list ++ kept)
BodyTaken count bytes kept ended (Err CutShort) = (length bytes < count) × ended
BodyTaken count bytes kept ended (Err ReadFault) = length bytes < count
BodyTaken count bytes kept ended (Err NoMemory) = ⊤
BodyTaken count bytes kept ended (Err fault) = ⊥
