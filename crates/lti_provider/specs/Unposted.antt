-- Why there is no request for an outcome.
use Rattle.std.specs.Prelude.{⊤}
use Rattle.pox_outcomes.specs.Written.{IsXml}
use Rattle.pox_outcomes.specs.declared.outcome.Outcome.{Outcome}
use Rattle.lti_provider.specs.declared.passback_fault.PassbackFault.{PassbackFault}
use Rattle.lti_provider.specs.declared.passback_fault.PassbackFault.TheVariants.{NotXml, NoMemory}

-- a text of it holds a character that XML doesn't allow, or there was no memory
abbrev pub IsUnposted : Outcome → PassbackFault → Type 0
IsUnposted outcome NotXml = ¬ IsXml outcome
IsUnposted outcome NoMemory = ⊤
IsUnposted outcome fault = ⊥
