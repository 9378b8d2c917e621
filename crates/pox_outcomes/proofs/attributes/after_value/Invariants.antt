use Rattle.std.proofs.Common.{length}
use Rattle.pox_outcomes.specs.Attributes.{IsValue}
use Rattle.pox_outcomes.proofs.LanguageLemmas.{Leads}
use Rattle.pox_outcomes.proofs.attributes.after_value.Given as goal

abbrev pub invariant-characters : goal.invariant-characters
invariant-characters l = Leads (IsValue l.quote) l.fn.bytes (IsValue l.quote) l.rest

abbrev pub decreases-characters : goal.decreases-characters
decreases-characters l = length l.rest
