use Rattle.std.proofs.Common.{sym, ◌∙◌, refl}
use Rattle.pox_outcomes.specs.Texts.{is_literal}
use Rattle.pox_outcomes.proofs.CarriedLemmas.{stops_on}
use Rattle.pox_outcomes.proofs.TextLemmas.{by_stops, by_fails}
use Rattle.pox_outcomes.proofs.texts.after_literal.Goals as goal

pub returns-then-not-begins_literally-clause-stops : goal.returns-then-not-begins_literally-clause-stops
returns-then-not-begins_literally-clause-stops c = by_fails is_literal c.args.bytes.now refl (sym c.begins_literally.ensures ∙ c.if-not-begins_literally.true)

pub returns-clause-stops : goal.returns-clause-stops
returns-clause-stops c = stops_on _ c.after_character.ensures.stops (λ n s. by_stops is_literal _ n refl (sym c.begins_literally.ensures ∙ c.if-not-begins_literally.false) s)
