-- What is written for a fault of the wire, and the end that it makes.
use Rattle.std.specs.Prelude.{◌≡◌, ◌⊎◌, ℕ, List, [], Bool, true, false, None, Some}
use Rattle.lti_outside.specs.Traffic.{Fault, no_fault, write_fault, IsProperPrefix}
use Rattle.http_wire.specs.Message.{ResponseParts}
use Rattle.http_wire.specs.Response.{response_text}
use Rattle.http_wire.specs.declared.fault.WireFault.{WireFault}
use Rattle.http_wire.specs.declared.fault.WireFault.TheVariants as wire
use Rattle.lti_provider.specs.Answers.{wire_answer}
use Rattle.lti_session.specs.declared.session_end.SessionEnd.{SessionEnd}
use Rattle.lti_session.specs.declared.session_end.SessionEnd.TheVariants.{CutShort, ReadFault, WriteFault, Refused, NoMemory}

-- the end of a connection whose fault was answered, or couldn't be
abbrev pub refused_end : WireFault → Bool → SessionEnd
refused_end wire.CutShort written = CutShort
refused_end wire.ReadFault written = ReadFault
refused_end wire.NoMemory written = NoMemory
refused_end fault true = Refused fault
refused_end fault false = WriteFault

-- The answer to the fault was written whole, or a proper front of it where a write failed; nothing was, where it has none.
abbrev pub Refuses : List ℕ → Fault → WireFault → SessionEnd → Type 0
Refuses written met fault end =
    ((wire_answer fault ≡ None) × (met ≡ no_fault) × (written ≡ []) × (end ≡ refused_end fault true))
    ⊎ ((answer : ResponseParts) × (wire_answer fault ≡ Some answer)
    × (((met ≡ no_fault) × (written ≡ response_text answer true) × (end ≡ refused_end fault true))
    ⊎ ((met ≡ write_fault) × IsProperPrefix written (response_text answer true) × (end ≡ refused_end fault false))))
