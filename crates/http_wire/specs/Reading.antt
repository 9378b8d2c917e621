-- How the head of a message is read: its lines, then the grammar, then its parts.
use Rattle.std.specs.Prelude.{◌≡◌, ◌⊎◌, ℕ, List, None, Some, Result, Ok, Err}
use Rattle.lti_outside.specs.declared.limits.Limits.{Limits}
use Rattle.http_wire.specs.declared.fault.WireFault.{WireFault}
use Rattle.http_wire.specs.declared.fault.WireFault.TheVariants.{BadHead, ReadFault, NoMemory}
use Rattle.http_wire.specs.Conditions.{Condition, first_fault}
use Rattle.http_wire.specs.Lines.{line_conditions}

-- the bytes are a head without fault, which says this: `Parses` is the grammar, `parts_of` the parts that are judged, and
-- `conditions` what may be wrong with them
pub record Reads {H P : Type 0} (Parses : List ℕ → H → Type 0) (parts_of : H → P) (conditions : P → List (Condition WireFault)) (limits : Limits) (head : List ℕ) (head_parts : P) : Type 0 where
  pub lines : first_fault (line_conditions limits head) ≡ None
  pub parsed : H
  pub reads : Parses head parsed
  pub is : head_parts ≡ parts_of parsed
  pub parts : first_fault (conditions head_parts) ≡ None

-- the first fault of the head: of its lines, that it is no head of the grammar, of its parts
abbrev pub ReadingFault : {H P : Type 0} → (List ℕ → H → Type 0) → (H → P) → (P → List (Condition WireFault)) → Limits → List ℕ → WireFault → Type 0
ReadingFault {H = H} Parses parts_of conditions limits head fault =
    (first_fault (line_conditions limits head) ≡ Some fault)
    ⊎ ((first_fault (line_conditions limits head) ≡ None)
    × (((fault ≡ BadHead) × ((h : H) → Parses head h → ⊥))
    ⊎ ((h : H) × Parses head h × (first_fault (conditions (parts_of h)) ≡ Some fault))))

-- what reading a part of a head answers: a value that is so, or a fault that is so. Want of memory says only `Memory`
abbrev pub Tells : {T : Type 0} → (T → Type 0) → Type 0 → (WireFault → Type 0) → Result T WireFault → Type 0
Tells IsValue Memory IsFault (Ok value) = IsValue value
Tells IsValue Memory IsFault (Err NoMemory) = Memory
Tells IsValue Memory IsFault (Err ReadFault) = ⊥
Tells IsValue Memory IsFault (Err fault) = IsFault fault

-- the first fault of conditions, or a value that is so where none of them holds
abbrev pub Judges : {T : Type 0} → List (Condition WireFault) → (T → Type 0) → Type 0 → Result T WireFault → Type 0
Judges conditions IsValue Memory result =
    Tells (λ value. (first_fault conditions ≡ None) × IsValue value) Memory (λ fault. first_fault conditions ≡ Some fault) result
