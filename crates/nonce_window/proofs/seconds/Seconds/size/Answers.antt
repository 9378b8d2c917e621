use Rattle.std.proofs.Common.{◌≡◌, ◌+◌, suc, ℕ, Bool, cond, filter, nat_eq, ap, sym, ◌∙◌, arith}
use Rattle.std.specs.Int.{bit_at}
use Rattle.std.specs.List.{sum_by}
use Rattle.std.proofs.lemmas.Bool.Decides.{nat_tests}
use Rattle.nonce_window.specs.Minutes.{below}
use Rattle.nonce_window.specs.Sizes.{capped}
use Rattle.nonce_window.proofs.SecondLemmas.{none_yet}
use Rattle.nonce_window.proofs.SizeLemmas.{seconds_sum}
use Rattle.nonce_window.proofs.seconds.Seconds.size.Goals as goal
use Rattle.nonce_window.proofs.seconds.Seconds.size.Goals.{then-is_set, else-is_set}

pub loop-second-init : goal.loop-second-init
loop-second-init c = omega (arith, c.ranges.size.fits, ap (sum_by (λ _. c.args.each)) (none_yet (λ s. nat_eq (bit_at c.self.inside.bits s) 1)))

pub loop-second-preserved : goal.loop-second-preserved
loop-second-preserved c =
    let p : ℕ → Bool = λ s. nat_eq (bit_at c.self.inside.bits s) 1 in
    let n = c.loop-second.second in
    let next : n + 1 ≡ suc n = omega arith in
    let more = ap (λ m. sum_by (λ _. c.args.each) (filter p (below m))) next ∙ seconds_sum p c.args.each n in
    elim c.if-is_set.branch [
      | then-is_set w ↦ omega (arith, more, c.loop-second.invariant, w.total-is, w.saturating_add-total.ensures, ap (λ b. cond {A = ℕ} b c.args.each 0) (sym c.is_set.ensures ∙ w.if-is_set.true))
      | else-is_set w ↦ omega (arith, more, c.loop-second.invariant, w.total-is, ap (λ b. cond {A = ℕ} b c.args.each 0) (sym c.is_set.ensures ∙ w.if-is_set.false))
    ]

pub returns : goal.returns
returns c =
    let p : ℕ → Bool = λ s. nat_eq (bit_at c.self.inside.bits s) 1 in
    let end : c.loop-second.second ≡ 60 = grind (arith, nat_tests, c.loop-second-test.false) in
    c.loop-second.invariant ∙ ap (λ m. capped (c.args.size + sum_by (λ _. c.args.each) (filter p (below m)))) end ∙ ap (λ l. capped (c.args.size + sum_by (λ _. c.args.each) l)) c.self.view_is
