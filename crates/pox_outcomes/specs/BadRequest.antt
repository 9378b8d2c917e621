-- What a fault says of the bytes of a request or an answer.
use Rattle.std.specs.Prelude.{ℕ, List, ⊤}
use Rattle.pox_outcomes.specs.Request.{EnvelopeOf}
use Rattle.pox_outcomes.specs.BadAt.{IsBadAt}
use Rattle.pox_outcomes.specs.declared.faults.EnvelopeFault.{EnvelopeFault}
use Rattle.pox_outcomes.specs.declared.faults.EnvelopeFault.TheVariants.{BadEnvelope, NoMemory}

-- `NoMemory` says nothing of the bytes
abbrev pub IsFaultOf : {V : Type 0} → (List ℕ → V → Type 0) → List ℕ → EnvelopeFault → Type 0
IsFaultOf Of bytes (BadEnvelope at) = IsBadAt Of bytes at
IsFaultOf Of bytes NoMemory = ⊤

abbrev pub IsBadRequest : List ℕ → EnvelopeFault → Type 0
IsBadRequest = IsFaultOf EnvelopeOf
