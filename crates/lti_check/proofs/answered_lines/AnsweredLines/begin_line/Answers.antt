use Rattle.std.proofs.Common.{ℕ, List, ◌<◌, ◌≤◌, ◌+◌, length, refl, sym, subst, arith}
use Rattle.std.proofs.lemmas.Bool.Decides.{nat_tests}
use Rattle.std.proofs.lemmas.Result.{err_from_is_err_and}
use Rattle.lti_check.specs.CheckerView.{asked}
use Rattle.lti_check.specs.SoFar.{budget}
use Rattle.lti_check.proofs.FeedLemmas.{IsSoFar-as}
use Rattle.lti_check.proofs.SoFarLemmas as so_far
use Rattle.lti_check.proofs.answered_lines.AnsweredLines.begin_line.Goals as goal

pub returns-then-self-checker : goal.returns-then-self-checker
returns-then-self-checker c = λ read written led.
    let some : 0 < length c.args.part.now = grind (arith, nat_tests) in
    let limits = c.args.checker.now.limits in (
      so_far.front_of (asked c.args.checker.now) limits _ _ _ _ _ led.so_far ⊥ c.args.part.now,
      so_far.too_many (asked c.args.checker.now) limits _ _ _ _ _ led.so_far c.args.part.now some (omega arith),
    )

pub returns-then-len-part : goal.returns-then-len-part
returns-then-len-part c = λ read written led.
    let limits = c.args.checker.now.limits in (
      so_far.front_of (asked c.args.checker.now) limits _ _ _ _ _ led.so_far ⊥ c.args.part.now,
      so_far.too_long (asked c.args.checker.now) limits _ _ _ _ _ led.so_far c.args.part.now c.requires (omega arith),
    )

pub returns-in_err-extend_from_slice : goal.returns-in_err-extend_from_slice
returns-in_err-extend_from_slice c =
    let p = err_from_is_err_and c.from_residual.result c.from_residual.ensures.1 in
    rw (p.1, p.2) (λ read written led. so_far.front_of (asked c.args.checker.now) c.args.checker.now.limits _ _ _ _ _ led.so_far ⊥ c.args.part.now)

pub returns : goal.returns
returns c = λ read written led.
    let limits = c.args.checker.now.limits in
    let command = asked c.args.checker.now in
    let held = sym c.in_ok-extend_from_slice.ensures.items in (
      record {
        accepted = led.accepted;
        window = led.window;
        so_far = IsSoFar-as command limits refl held refl refl (so_far.hold command limits _ _ _ _ _ led.so_far c.args.part.now c.requires (omega arith));
      },
      subst (λ (h : List ℕ). budget limits c.args.self.now.count h + length c.args.part.now ≤ budget limits c.args.self.now.count c.args.self.now.held.items) held
          (so_far.hold_spent command limits _ _ _ _ _ led.so_far c.args.part.now (omega arith)),
    )
