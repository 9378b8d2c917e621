-- What the bytes of a connection spell, and what is wrong with bytes that spell no request (RFC 9112, sections 2, 3, 5
-- and 6, within the limits of a run and without chunked bodies).
use Rattle.std.specs.Prelude.{◌≡◌, ◌<◌, ◌≤◌, ◌⊎◌, ℕ, Bool, List, [], ◌++◌, length, take, ⊤, Option, None, Some, Result, Ok, Err}
use Rattle.lti_outside.specs.declared.limits.Limits.{Limits}
use Rattle.lti_outside.specs.Traffic.{Fault, no_fault, read_fault}
use Rattle.http_wire.specs.declared.message.Request.{Request}
use Rattle.http_wire.specs.declared.fault.WireFault.{WireFault}
use Rattle.http_wire.specs.declared.fault.WireFault.TheVariants.{HeadTooLong, CutShort, ReadFault, NoMemory}
use Rattle.http_wire.specs.Message.{RequestParts, parts_of}
use Rattle.http_wire.specs.Shape.{HasNoHead, IsHead}
use Rattle.http_wire.specs.Head.{HeadParts, HeadReads, HeadFault, request_of, body_length}

-- the bytes are the whole spelling of the request: a head within the limit, and a body of the length that it says
pub record Spelling (limits : Limits) (bytes : List ℕ) (parts : RequestParts) : Type 0 where
  pub head : List ℕ
  pub head_parts : HeadParts
  pub is_head : IsHead head
  pub fits : length head ≤ limits.head
  pub reads : HeadReads limits head head_parts
  pub body : length parts.body ≡ body_length head_parts
  pub is : bytes ≡ head ++ parts.body
  pub parts_are : parts ≡ request_of head_parts parts.body

-- a head within the limit stands at the front of the bytes
pub record HeadIn (limits : Limits) (bytes head rest : List ℕ) : Type 0 where
  pub is : bytes ≡ head ++ rest
  pub is_head : IsHead head
  pub fits : length head ≤ limits.head

-- the first bytes, as many as the limit allows, hold no head
abbrev pub IsHeadTooLong : Limits → List ℕ → Type 0
IsHeadTooLong limits bytes = (limits.head ≤ length bytes) × HasNoHead (take limits.head bytes)

-- the input ends inside a head
abbrev pub EndsInHead : Limits → List ℕ → Type 0 → Type 0
EndsInHead limits bytes ended = (0 < length bytes) × (length bytes < limits.head) × HasNoHead bytes × ended

-- the input ends inside a body
abbrev pub EndsInBody : Limits → List ℕ → List ℕ → Type 0 → Type 0
EndsInBody limits head rest ended = (head_parts : HeadParts) × HeadReads limits head head_parts × (length rest < body_length head_parts) × ended

-- the first fault of bytes that begin with no spelling; `ended` says that the input ends behind them
abbrev pub WireFaultOf : Limits → List ℕ → Type 0 → WireFault → Type 0
WireFaultOf limits bytes ended fault =
    ((fault ≡ HeadTooLong) × IsHeadTooLong limits bytes)
    ⊎ (((fault ≡ CutShort) × EndsInHead limits bytes ended)
    ⊎ ((head : List ℕ) × (rest : List ℕ) × HeadIn limits bytes head rest
    × (HeadFault limits head fault ⊎ ((fault ≡ CutShort) × EndsInBody limits head rest ended))))

-- no front of the bytes is a spelling
abbrev pub BeginsWithNone : Limits → List ℕ → Type 0
BeginsWithNone limits bytes =
    (spelled rest : List ℕ) (parts : RequestParts) → Spelling limits spelled parts → bytes ≡ spelled ++ rest → ⊥

-- what a fault says of the bytes: a read fault that they begin with no spelling, want of memory nothing
abbrev pub FaultTells : Limits → List ℕ → Type 0 → WireFault → Type 0
FaultTells limits bytes ended ReadFault = BeginsWithNone limits bytes
FaultTells limits bytes ended NoMemory = ⊤
FaultTells limits bytes ended fault = WireFaultOf limits bytes ended fault

-- what was found in the bytes that were kept before and taken since, and what is kept of them
abbrev pub ReadTells : Limits → List ℕ → List ℕ → Type 0 → Result (Option Request) WireFault → Type 0
ReadTells limits bytes kept ended (Ok (Some request)) =
    (spelled : List ℕ) × Spelling limits spelled (parts_of request) × (bytes ≡ spelled ++ kept)
ReadTells limits bytes kept ended (Ok None) = (bytes ≡ []) × (kept ≡ []) × ended
ReadTells limits bytes kept ended (Err fault) = FaultTells limits bytes ended fault

-- a wire, as contracts see it: the bytes that it has taken and not given, and whether it has failed
pub record WireState : Type 0 where
  pub kept : List ℕ
  pub failed : Bool

-- the fault of the connection that a call met
abbrev pub fault_of : {T : Type 0} → Result T WireFault → Fault
fault_of (Ok value) = no_fault
fault_of (Err ReadFault) = read_fault
fault_of (Err fault) = no_fault

-- bytes begin with one spelling at most
abbrev pub OneSpelling : Type 0
OneSpelling =
    (limits : Limits) (one other x y : List ℕ) (p q : RequestParts)
    → Spelling limits one p → Spelling limits other q → one ++ x ≡ other ++ y → (one ≡ other) × (p ≡ q) × (x ≡ y)

-- no spelling of a request is a proper front of another
abbrev pub NoProperFront : Type 0
NoProperFront =
    (limits : Limits) (spelled more : List ℕ) (one other : RequestParts)
    → Spelling limits spelled one → Spelling limits (spelled ++ more) other → more ≡ []

-- A fault stays the fault of the bytes whatever follows them, it is the only one, and bytes with a fault begin with no
-- spelling.
abbrev pub FaultsAreFirst : Type 0
FaultsAreFirst =
    ((limits : Limits) (bytes left : List ℕ) (fault : WireFault)
    → WireFaultOf limits bytes (left ≡ []) fault → WireFaultOf limits (bytes ++ left) ⊤ fault)
    × ((limits : Limits) (bytes : List ℕ) (one other : WireFault) → WireFaultOf limits bytes ⊤ one → WireFaultOf limits bytes ⊤ other → one ≡ other)
    × ((limits : Limits) (bytes : List ℕ) (fault : WireFault) → WireFaultOf limits bytes ⊤ fault → BeginsWithNone limits bytes)
