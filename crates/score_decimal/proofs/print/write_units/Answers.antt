use Rattle.std.proofs.Common.{◌∙◌, ◌++◌, sym, ap}
use Rattle.score_decimal.specs.Printed.{digits_in}
use Rattle.score_decimal.proofs.PrintedLemmas.{text_zero, text_one, text_between, one_byte, two_bytes}
use Rattle.score_decimal.proofs.print.write_units.Goals as goal

pub returns-then-units-eq0-clause-text : goal.returns-then-units-eq0-clause-text
returns-then-units-eq0-clause-text c = one_byte c.args.room.now 48 c.requires.room ∙ sym (text_zero c.args.units c.if-units-eq0.true)

pub returns-then-units-eq-ONE-clause-text : goal.returns-then-units-eq-ONE-clause-text
returns-then-units-eq-ONE-clause-text c = one_byte c.args.room.now 49 c.requires.room ∙ sym (text_one c.args.units c.if-units-eq-ONE.true)

pub returns-clause-text : goal.returns-clause-text
returns-clause-text c =
    c.write_fraction.ensures.text
    ∙ ap (λ x. x ++ digits_in 30 c.args.units) (two_bytes c.args.room.now 48 46 c.requires.room)
    ∙ sym (text_between c.args.units c.if-units-eq0.false c.if-units-eq-ONE.false)
