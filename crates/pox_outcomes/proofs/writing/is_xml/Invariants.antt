use Rattle.std.proofs.Common.{◌↔◌, length}
use Rattle.pox_outcomes.specs.Written.{IsXmlText}
use Rattle.pox_outcomes.proofs.writing.is_xml.Given as goal

abbrev pub invariant-characters : goal.invariant-characters
invariant-characters l = IsXmlText l.text ↔ IsXmlText l.rest

abbrev pub decreases-characters : goal.decreases-characters
decreases-characters l = length l.rest
