use Rattle.std.proofs.Common.{length}
use Rattle.std.specs.String.{string_bytes}
use Rattle.pox_outcomes.proofs.TextLemmas.{Spells}
use Rattle.pox_outcomes.proofs.texts.text.Given as goal

abbrev pub invariant-units : goal.invariant-units
invariant-units l = Spells l.bytes (string_bytes l.text) l.rest

abbrev pub decreases-units : goal.decreases-units
decreases-units l = length l.rest
