use Rattle.std.proofs.Common.{◌≤◌, ◌/◌, ap, sym, subst, ◌∙◌, arith, filter, nat_le, IfSome}
use Rattle.nonce_window.specs.Fresh.{IsKnown, IsNext, staying, first_at}
use Rattle.nonce_window.proofs.KnownLemmas.{known_later}
use Rattle.nonce_window.proofs.WindowLemmas.{next_passed, idle_passed}
use Rattle.nonce_window.proofs.window.NonceWindow.pass.Goals as goal

pub invariant_of-self : goal.invariant_of-self
invariant_of-self c =
    let high = c.self.inside.highest in
    let later = c.max-self-inside.result in
    let raised : high ≤ later = omega (arith, c.max-self-inside.ensures) in
    let nonces = c.forget.ensures ∙ ap (λ n. filter (λ e. nat_le n (e.timestamp / 60)) c.self.inside.nonces) c.first_minute-first.ensures in
    let last = c.from_minute.ensures ∙ (λ i. staying (c.first_minute-first.ensures i) (c.take-last.ensures.value i)) in
    record {
      known = subst (λ l. IsKnown l later) (sym nonces) (known_later c.self.inside.nonces high later raised c.self.invariant.known);
      next = subst (λ o. IfSome o (IsNext c.forget.new.self later)) (sym last) (subst (λ l. IfSome (staying (first_at later) c.self.inside.last) (IsNext l later)) (sym nonces) (next_passed c.self.inside.nonces c.self.inside.last high later c.self.invariant.next));
      idle = λ ready. last ∙ idle_passed c.self.inside.last (first_at later) (c.self.invariant.idle ready);
    }
