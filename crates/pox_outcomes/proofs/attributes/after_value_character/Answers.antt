use Rattle.std.proofs.Common.{sym, ◌∙◌}
use Rattle.pox_outcomes.specs.Attributes.{is_value_byte}
use Rattle.pox_outcomes.proofs.CarriedLemmas.{stops_on}
use Rattle.pox_outcomes.proofs.AttributeLemmas.{letter_passes}
use Rattle.pox_outcomes.proofs.TextLemmas.{by_stops, by_fails}
use Rattle.pox_outcomes.proofs.attributes.after_value_character.Goals as goal

pub returns-then-not-begins_value-clause-stops : goal.returns-then-not-begins_value-clause-stops
returns-then-not-begins_value-clause-stops c =
    by_fails (is_value_byte c.args.quote) c.args.bytes.now (letter_passes c.args.quote c.requires) (sym c.begins_value.ensures ∙ c.if-not-begins_value.true)

pub returns-clause-stops : goal.returns-clause-stops
returns-clause-stops c =
    stops_on _ c.after_character.ensures.stops (λ n s. by_stops (is_value_byte c.args.quote) _ n (letter_passes c.args.quote c.requires) (sym c.begins_value.ensures ∙ c.if-not-begins_value.false) s)
