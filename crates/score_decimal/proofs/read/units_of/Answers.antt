use Rattle.std.proofs.Common.{◌≡◌, ◌∙◌, sym, arith, ap, subst, ◌*◌, ◌+◌, ◌-◌, ◌^◌, ◌≤◌, ◌<◌, ℕ, Some, IfSome, Option}
use Rattle.std.specs.Str.Parse.{digits_value}
use Rattle.score_decimal.specs.Written.{IsWritten}
use Rattle.score_decimal.proofs.FractionLemmas.{within_none, within_some}
use Rattle.score_decimal.proofs.WrittenLemmas.{HasParts, written_found, written_same, fraction_written, whole_written}
use Rattle.score_decimal.proofs.read.units_of.Goals as goal

pub returns-in_err-ones-clause-written : goal.returns-in_err-ones-clause-written
returns-in_err-ones-clause-written c n =
    let parts : HasParts c.args.text.now c.split_at_point.result.0.now c.split_at_point.result.1.now = record {
      short = omega arith;
      whole_is = c.split_at_point.ensures.whole;
      fraction_is = c.split_at_point.ensures.fraction;
      whole = sym c.are_digits.ensures ∙ c.if-not-are_digits.false;
      fraction = sym c.are_digits-else-not-are_digits.ensures ∙ c.if-not-are_digits-2.false;
      digits = c.has_digit.ensures.0 c.if-not-has_digit.false;
    } in
    let above = within_none _ _ (sym c.in_err-ones.was ∙ c.number_within.ensures) in
    let none = c.from_residual.ensures in
    ((λ made. cc), (λ is. let least = whole_written c.args.text.now c.split_at_point.result.0.now c.split_at_point.result.1.now n parts is in absurd (omega (arith, above, least))))

pub returns-in_err-units-clause-written : goal.returns-in_err-units-clause-written
returns-in_err-units-clause-written c n =
    let parts : HasParts c.args.text.now c.split_at_point.result.0.now c.split_at_point.result.1.now = record {
      short = omega arith;
      whole_is = c.split_at_point.ensures.whole;
      fraction_is = c.split_at_point.ensures.fraction;
      whole = sym c.are_digits.ensures ∙ c.if-not-are_digits.false;
      fraction = sym c.are_digits-else-not-are_digits.ensures ∙ c.if-not-are_digits-2.false;
      digits = c.has_digit.ensures.0 c.if-not-has_digit.false;
    } in
    let none = c.from_residual-in_err-units.ensures in
    let was = c.in_err-units.was in (
      (λ made. cc),
      (λ is.
          let found = (c.fraction_units.ensures.units (n - digits_value 10 c.split_at_point.result.0.now * 10 ^ 30)).1
          (fraction_written c.args.text.now c.split_at_point.result.0.now c.split_at_point.result.1.now n parts is) in
          cc),
    )

pub overflow_add-number : goal.overflow_add-number
overflow_add-number c =
    let ones = within_some _ _ _ (sym c.in_ok-ones.was ∙ c.number_within.ensures) in
    let below : IfSome (Some c.in_ok-units.units) (λ n. n < 10 ^ 30) = subst (λ (r : Option ℕ). IfSome r (λ n. n < 10 ^ 30)) c.in_ok-units.was c.fraction_units.ensures.range in
    omega (arith, ones.0, ones.1, below)

pub returns-then-number-le-ONE-clause-written : goal.returns-then-number-le-ONE-clause-written
returns-then-number-le-ONE-clause-written c n =
    let parts : HasParts c.args.text.now c.split_at_point.result.0.now c.split_at_point.result.1.now = record {
      short = omega arith;
      whole_is = c.split_at_point.ensures.whole;
      fraction_is = c.split_at_point.ensures.fraction;
      whole = sym c.are_digits.ensures ∙ c.if-not-are_digits.false;
      fraction = sym c.are_digits-else-not-are_digits.ensures ∙ c.if-not-are_digits-2.false;
      digits = c.has_digit.ensures.0 c.if-not-has_digit.false;
    } in
    let ones = within_some _ _ _ (sym c.in_ok-ones.was ∙ c.number_within.ensures) in
    let units = (c.fraction_units.ensures.units c.in_ok-units.units).0 c.in_ok-units.was in
    let sum : c.in_ok-ones.ones * 10 ^ 30 + c.in_ok-units.units ≡ digits_value 10 c.split_at_point.result.0.now * 10 ^ 30 + c.in_ok-units.units =
    ap (λ x. x * 10 ^ 30 + c.in_ok-units.units) ones.0 in
    let small : digits_value 10 c.split_at_point.result.0.now * 10 ^ 30 + c.in_ok-units.units ≤ 10 ^ 30 = omega (arith, sum) in
    let found = written_found c.args.text.now c.split_at_point.result.0.now c.split_at_point.result.1.now c.in_ok-units.units parts units small in (
      (λ made.
          let same : digits_value 10 c.split_at_point.result.0.now * 10 ^ 30 + c.in_ok-units.units ≡ n = cc in
          subst (IsWritten c.args.text.now) same found),
      (λ is. ap Some (sum ∙ sym (written_same c.args.text.now c.split_at_point.result.0.now c.split_at_point.result.1.now c.in_ok-units.units n parts units is))),
    )

pub returns-else-number-le-ONE-clause-written : goal.returns-else-number-le-ONE-clause-written
returns-else-number-le-ONE-clause-written c n =
    let parts : HasParts c.args.text.now c.split_at_point.result.0.now c.split_at_point.result.1.now = record {
      short = omega arith;
      whole_is = c.split_at_point.ensures.whole;
      fraction_is = c.split_at_point.ensures.fraction;
      whole = sym c.are_digits.ensures ∙ c.if-not-are_digits.false;
      fraction = sym c.are_digits-else-not-are_digits.ensures ∙ c.if-not-are_digits-2.false;
      digits = c.has_digit.ensures.0 c.if-not-has_digit.false;
    } in
    let ones = within_some _ _ _ (sym c.in_ok-ones.was ∙ c.number_within.ensures) in
    let units = (c.fraction_units.ensures.units c.in_ok-units.units).0 c.in_ok-units.was in
    let sum : c.in_ok-ones.ones * 10 ^ 30 + c.in_ok-units.units ≡ digits_value 10 c.split_at_point.result.0.now * 10 ^ 30 + c.in_ok-units.units =
    ap (λ x. x * 10 ^ 30 + c.in_ok-units.units) ones.0 in (
      (λ made. cc),
      (λ is.
          let same = written_same c.args.text.now c.split_at_point.result.0.now c.split_at_point.result.1.now c.in_ok-units.units n parts units is in
          let range = is.range in
          absurd (omega (arith, sum, same, range))),
    )
