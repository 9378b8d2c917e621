use Rattle.std.proofs.Common.{◌≡◌, ◌+◌, suc, ℕ, Bool, [], ◌∷◌, ◌++◌, cond, filter, nat_eq, ap, sym, ◌∙◌, arith}
use Rattle.std.specs.Int.{bit_at}
use Rattle.std.proofs.lemmas.Bool.Decides.{nat_tests}
use Rattle.nonce_window.specs.Minutes.{below}
use Rattle.nonce_window.proofs.SecondLemmas.{last, none_yet}
use Rattle.nonce_window.proofs.seconds.Seconds.list.Goals as goal

pub loop-second-init : goal.loop-second-init
loop-second-init c = c.new-seconds.ensures.items ∙ sym (none_yet (λ s. nat_eq (bit_at c.self.inside.bits s) 1))

pub loop-second-preserved : goal.loop-second-preserved
loop-second-preserved c =
    let p : ℕ → Bool = λ s. nat_eq (bit_at c.self.inside.bits s) 1 in
    let n = c.loop-second.second in
    let next : suc n ≡ n + 1 = omega arith in
    c.in_ok-push_where.ensures
    ∙ (λ i. c.loop-second.invariant i ++ cond (c.is_set.ensures i) (n ∷ []) [])
    ∙ sym (last p n)
    ∙ ap (λ m. filter p (below m)) next

pub returns : goal.returns
returns c =
    let p : ℕ → Bool = λ s. nat_eq (bit_at c.self.inside.bits s) 1 in
    let end : c.loop-second.second ≡ 60 = grind (arith, nat_tests, c.loop-second-test.false) in
    c.loop-second.invariant ∙ ap (λ m. filter p (below m)) end ∙ c.self.view_is
