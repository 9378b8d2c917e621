use Rattle.std.proofs.Common.{sym, ◌∙◌, arith}
use Rattle.std.proofs.lemmas.Int.Digits.{digits_value_more}
use Rattle.lti_outside.proofs.DigitLemmas.{digits_small, digit_worth_at, decimal_parts}
use Rattle.lti_outside.proofs.decimal.read_decimal.Goals as goal

pub overflow_mul-number : goal.overflow_mul-number
overflow_mul-number c =
    let parts = decimal_parts c.args.most c.args.text.now (sym c.is_decimal_text.ensures ∙ c.if-not-is_decimal_text.false) in
    let small = digits_small c.loop-b.b-index c.args.text.now parts.0 (omega arith) in
    omega (arith, small, c.loop-b.invariant)

pub overflow_add-number : goal.overflow_add-number
overflow_add-number c =
    let parts = decimal_parts c.args.most c.args.text.now (sym c.is_decimal_text.ensures ∙ c.if-not-is_decimal_text.false) in
    let small = digits_small c.loop-b.b-index c.args.text.now parts.0 (omega arith) in
    let worth = digit_worth_at c.args.text.now c.loop-b.b-index parts.0 (omega arith) in
    omega (arith, small, c.loop-b.invariant, worth, c.from.ensures)

pub loop-b-preserved : goal.loop-b-preserved
loop-b-preserved c =
    let parts = decimal_parts c.args.most c.args.text.now (sym c.is_decimal_text.ensures ∙ c.if-not-is_decimal_text.false) in
    let worth = digit_worth_at c.args.text.now c.loop-b.b-index parts.0 (omega arith) in
    let more = digits_value_more 10 c.args.text.now c.loop-b.b-index (omega arith) in
    omega (arith, more, c.loop-b.invariant, worth, c.from.ensures)
