use Rattle.std.proofs.Common.{refl, ◌<◌, ◌+◌, arith}
use Rattle.std.specs.Str.Parse.{digits_value}
use Rattle.std.proofs.lemmas.Int.Digits.{digits_value_more}
use Rattle.std.proofs.lemmas.Str.Parse.{digits_value-take-le}
use Rattle.std.proofs.lemmas.Bool.{lt-leb}
use Rattle.lti_outside.proofs.DigitLemmas.{digit_worth_at}
use Rattle.score_decimal.proofs.digits.number_within.Goals as goal

pub returns-then-number-most : goal.returns-then-number-most
returns-then-number-most c =
    let worth = digit_worth_at c.args.text.now c.loop-b.b-index c.requires.digits (omega arith) in
    let more = digits_value_more 10 c.args.text.now c.loop-b.b-index (omega arith) in
    let least = digits_value-take-le 10 c.args.text.now (c.loop-b.b-index + 1) (omega arith) in
    let above : c.args.most < digits_value 10 c.args.text.now = omega (arith, worth, more, least, c.loop-b.invariant.0, c.from.ensures, c.if-number-most.true) in
    rw (lt-leb _ _ above) refl

pub loop-b-preserved : goal.loop-b-preserved
loop-b-preserved c =
    let worth = digit_worth_at c.args.text.now c.loop-b.b-index c.requires.digits (omega arith) in
    let more = digits_value_more 10 c.args.text.now c.loop-b.b-index (omega arith) in
    (omega (arith, worth, more, c.loop-b.invariant.0, c.from.ensures), c.if-number-most.false)
