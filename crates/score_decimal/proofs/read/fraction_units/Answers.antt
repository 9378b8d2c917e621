use Rattle.std.proofs.Common.{◌≡◌, ◌∙◌, sym, arith, ap, true, false, ◌==◌, ◌*◌, ◌^◌, ◌-◌, ℕ, Some, length, take}
use Rattle.std.specs.List.{list_all}
use Rattle.std.specs.Char.{is_ascii_digit}
use Rattle.std.specs.Str.Parse.{digits_value}
use Rattle.score_decimal.proofs.FractionLemmas.{cut_at_thirty, units_found, units_need_zeros, units_once, units_below, first_in_one, digits_cut, within_none, within_some}
use Rattle.score_decimal.proofs.read.fraction_units.Goals as goal

pub returns-then-not-are_zeros-clause-units : goal.returns-then-not-are_zeros-clause-units
returns-then-not-are_zeros-clause-units c n =
    let cut = cut_at_thirty c.min-places.result c.args.fraction.now c.min-places.ensures in (
      (λ none. cc),
      (λ same.
          let zeros = units_need_zeros c.min-places.result c.args.fraction.now cut c.requires n same in
          let clash : true ≡ false = sym zeros ∙ ap (list_all (λ (b : ℕ). b == 48)) (sym c.split_at.ensures.back) ∙ sym c.are_zeros.ensures ∙ c.if-not-are_zeros.true in
          cc),
    )

pub number_within-requires-clause-digits : goal.number_within-requires-clause-digits
number_within-requires-clause-digits c =
    ap (list_all is_ascii_digit) c.split_at.ensures.front ∙ (digits_cut c.min-places.result c.args.fraction.now c.requires).0

pub returns-in_err-number-clause-units : goal.returns-in_err-number-clause-units
returns-in_err-number-clause-units c =
    let cut = cut_at_thirty c.min-places.result c.args.fraction.now c.min-places.ensures in
    let first = ap (digits_value 10) c.split_at.ensures.front in
    let below = first_in_one c.min-places.result c.args.fraction.now cut c.requires in
    let above = within_none _ _ (sym c.in_err-number.was ∙ c.number_within.ensures) in
    absurd (omega (arith, below, above, first))

pub overflow_mul-result : goal.overflow_mul-result
overflow_mul-result c =
    let cut = cut_at_thirty c.min-places.result c.args.fraction.now c.min-places.ensures in
    let first = ap (digits_value 10) c.split_at.ensures.front in
    let below = units_below c.min-places.result c.args.fraction.now cut c.requires in
    let number = within_some _ _ _ (sym c.in_ok-number.was ∙ c.number_within.ensures) in
    let is : c.in_ok-number.number * c.ten_to.result ≡ digits_value 10 (take c.min-places.result c.args.fraction.now) * 10 ^ (30 - c.min-places.result) =
    ap (λ x. x * c.ten_to.result) (number.0 ∙ first) ∙ ap (λ x. digits_value 10 (take c.min-places.result c.args.fraction.now) * x) c.ten_to.ensures in
    omega (arith, below, is)

pub returns-clause-range : goal.returns-clause-range
returns-clause-range c =
    let cut = cut_at_thirty c.min-places.result c.args.fraction.now c.min-places.ensures in
    let first = ap (digits_value 10) c.split_at.ensures.front in
    let below = units_below c.min-places.result c.args.fraction.now cut c.requires in
    let number = within_some _ _ _ (sym c.in_ok-number.was ∙ c.number_within.ensures) in
    let is : c.in_ok-number.number * c.ten_to.result ≡ digits_value 10 (take c.min-places.result c.args.fraction.now) * 10 ^ (30 - c.min-places.result) =
    ap (λ x. x * c.ten_to.result) (number.0 ∙ first) ∙ ap (λ x. digits_value 10 (take c.min-places.result c.args.fraction.now) * x) c.ten_to.ensures in
    omega (arith, below, is)

pub returns-clause-units : goal.returns-clause-units
returns-clause-units c n =
    let cut = cut_at_thirty c.min-places.result c.args.fraction.now c.min-places.ensures in
    let first = ap (digits_value 10) c.split_at.ensures.front in
    let number = within_some _ _ _ (sym c.in_ok-number.was ∙ c.number_within.ensures) in
    let is : c.in_ok-number.number * c.ten_to.result ≡ digits_value 10 (take c.min-places.result c.args.fraction.now) * 10 ^ (30 - c.min-places.result) =
    ap (λ x. x * c.ten_to.result) (number.0 ∙ first) ∙ ap (λ x. digits_value 10 (take c.min-places.result c.args.fraction.now) * x) c.ten_to.ensures in
    let zeros = ap (list_all (λ (b : ℕ). b == 48)) (sym c.split_at.ensures.back) ∙ sym c.are_zeros.ensures ∙ c.if-not-are_zeros.false in
    let found = units_found c.min-places.result c.args.fraction.now cut zeros in
    let own : (c.in_ok-number.number * c.ten_to.result) * 10 ^ length c.args.fraction.now ≡ digits_value 10 c.args.fraction.now * 10 ^ 30 =
    ap (λ x. x * 10 ^ length c.args.fraction.now) is ∙ found in (
      (λ made.
          let same : n ≡ c.in_ok-number.number * c.ten_to.result = cc in
          ap (λ x. x * 10 ^ length c.args.fraction.now) same ∙ own),
      (λ same. ap Some (units_once (length c.args.fraction.now) (c.in_ok-number.number * c.ten_to.result) n (digits_value 10 c.args.fraction.now * 10 ^ 30) own same)),
    )
