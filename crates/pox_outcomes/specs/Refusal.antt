-- What a refusal says of the outcome.
use Rattle.std.specs.Prelude.{⊤}
use Rattle.pox_outcomes.specs.Written.{IsXml}
use Rattle.pox_outcomes.specs.declared.faults.EnvelopeRefusal.{EnvelopeRefusal}
use Rattle.pox_outcomes.specs.declared.faults.EnvelopeRefusal.TheVariants.{NotXml, NoMemory}
use Rattle.pox_outcomes.specs.declared.outcome.Outcome.{Outcome}

-- `NotXml` says that some text holds a character that isn't allowed; `NoMemory` says nothing
abbrev pub IsRefusalOf : Outcome → EnvelopeRefusal → Type 0
IsRefusalOf o NotXml = ¬ IsXml o
IsRefusalOf o NoMemory = ⊤
