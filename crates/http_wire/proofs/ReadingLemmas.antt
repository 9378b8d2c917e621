-- What reading the head of a message says, of a request and of an answer alike.
use Rattle.std.proofs.Common.{◌≡◌, ℕ, List, [], inr, sym, ap, ◌∙◌}
use Rattle.std.specs.Prelude.{Ok, Err, Result, None, ⊤}
use Rattle.lti_outside.specs.declared.limits.Limits.{Limits}
use Rattle.lti_outside.specs.Traffic.{Traffic, Moves, no_fault}
use Rattle.http_wire.specs.declared.fault.WireFault.{WireFault}
use Rattle.http_wire.specs.declared.fault.WireFault.TheVariants.{ReadFault, NoMemory}
use Rattle.http_wire.specs.Conditions.{Condition, first_fault}
use Rattle.http_wire.specs.Lines.{line_conditions}
use Rattle.http_wire.specs.Reading.{Reads, ReadingFault, Tells, Judges}
use Rattle.http_wire.specs.Spelling.{fault_of}

module _ {H P : Type 0} (Parses : List ℕ → H → Type 0) (parts_of : H → P) (conditions : P → List (Condition WireFault)) (limits : Limits) (head : List ℕ) where
  -- the parts of a head whose lines have no fault
  pub parts_told : {T : Type 0} (IsFront : P → T → Type 0) (head_parts : P) (h : H) → first_fault (line_conditions limits head) ≡ None → Parses head h → head_parts ≡ parts_of h
      → (result : Result T WireFault) → Judges (conditions head_parts) (IsFront head_parts) ⊤ result
      → Tells (λ front. (p : P) × Reads Parses parts_of conditions limits head p × IsFront p front) ⊤ (ReadingFault Parses parts_of conditions limits head) result
  parts_told IsFront head_parts h fine reads is (Ok front) tells = (head_parts, record { lines = fine; parsed = h; reads = reads; is = is; parts = tells.0 }, tells.1)
  parts_told IsFront head_parts h fine reads is (Err NoMemory) tells = tt
  parts_told IsFront head_parts h fine reads is (Err ReadFault) tells = absurd tells
  parts_told IsFront head_parts h fine reads is (Err fault) tells = inr (fine, inr (h, reads, ap (λ (p : P). first_fault (conditions p)) (sym is) ∙ tells))

  -- a head says one thing, where the grammar reads it in one way
  pub head_parts_unique : ((h k : H) → Parses head h → Parses head k → h ≡ k) → (p q : P) → Reads Parses parts_of conditions limits head p → Reads Parses parts_of conditions limits head q → p ≡ q
  head_parts_unique once p q one other = one.is ∙ ap parts_of (once one.parsed other.parsed one.reads other.reads) ∙ sym other.is

-- reading a head meets no fault of the connection
pub front_moves : (T V : Type 0) (Says : Result V WireFault → Type 0) → (Says (Err ReadFault) → ⊥) → (read : List ℕ) (before after : Traffic) → Moves before after read [] no_fault
    → (fault : WireFault) → Says (Err fault) → Moves before after read [] (fault_of {T = T} (Err fault))
front_moves T V Says none read before after moves ReadFault said = absurd (none said)
front_moves T V Says none read before after moves fault said = moves
