use Rattle.std.proofs.Common.{◌≡◌, ◌∙◌, ◌++◌, ◌-◌, ◌+◌, ◌^◌, ◌<◌, ◌/◌, [], take, rules, sym, arith, ap}
use Rattle.std.proofs.lemmas.List.{append-nil}
use Rattle.std.proofs.Math.Nat.{mod-lt}
use Rattle.score_decimal.specs.Printed.{digits_in}
use Rattle.score_decimal.proofs.FractionLemmas.{ten_pos}
use Rattle.score_decimal.proofs.PrintedLemmas.{digits_end, place_left, weight_is, step_text}
use Rattle.score_decimal.proofs.print.write_fraction.Goals as goal

pub nonzero_div-room : goal.nonzero_div-room
nonzero_div-room c =
    let left = place_left c.digits.at c.digits.rest c.digits.invariant.within.1 c.digits.invariant.small c.digits-test.true in
    let weight = weight_is c.digits.at c.digits.weight left c.digits.invariant.weight in
    omega (arith, weight, ten_pos (31 - c.digits.at))

pub nonzero_rem-rest : goal.nonzero_rem-rest
nonzero_rem-rest c =
    let left = place_left c.digits.at c.digits.rest c.digits.invariant.within.1 c.digits.invariant.small c.digits-test.true in
    let weight = weight_is c.digits.at c.digits.weight left c.digits.invariant.weight in
    omega (arith, weight, ten_pos (31 - c.digits.at))

pub digits-preserved : goal.digits-preserved
digits-preserved c =
    let left = place_left c.digits.at c.digits.rest c.digits.invariant.within.1 c.digits.invariant.small c.digits-test.true in
    let weight = weight_is c.digits.at c.digits.weight left c.digits.invariant.weight in
    let after : 32 - (c.digits.at + 1) ≡ 31 - c.digits.at = omega arith in
    let pos : 0 < c.digits.weight = omega (arith, weight, ten_pos (31 - c.digits.at)) in
    let power : 10 ^ (32 - (c.digits.at + 1)) ≡ c.digits.weight = ap (λ k. 10 ^ k) after ∙ sym weight in
    let below = mod-lt c.digits.rest pos in
    record {
      within = (omega arith, omega arith);
      room = search rules;
      small = omega (arith, below, power);
      weight = ap (λ p. p / 10) (sym power);
      text = step_text c.digits.at c.digits.rest c.digits.weight c.digits.room c.args.room.now c.args.units left c.digits.invariant.room weight c.digits-test.true c.digits.invariant.text;
    }

pub returns-clause-text : goal.returns-clause-text
returns-clause-text c =
    let over : c.digits.rest ≡ 0 = omega arith in
    let none : digits_in (32 - c.digits.at) c.digits.rest ≡ [] = ap (λ r. digits_in (32 - c.digits.at) r) over ∙ digits_end (32 - c.digits.at) in
    sym (append-nil (take c.digits.at c.digits.room)) ∙ ap (λ x. take c.digits.at c.digits.room ++ x) (sym none) ∙ c.digits.invariant.text
