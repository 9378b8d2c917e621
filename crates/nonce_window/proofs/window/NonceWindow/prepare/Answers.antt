use Rattle.std.proofs.Common.{◌≡◌, ap, sym, ◌∙◌, subst, IfSome, List, ℕ}
use Rattle.lti_machine.specs.Nonces.{live}
use Rattle.nonce_window.specs.Fresh.{IsNext}
use Rattle.nonce_window.specs.Last.{with_last}
use Rattle.nonce_window.specs.Window.{WindowValue, Holds}
use Rattle.nonce_window.proofs.WindowLemmas.{live_settled, known_settled}
use Rattle.nonce_window.proofs.window.NonceWindow.prepare.Goals as goal

pub invariant_of-self-2 : goal.invariant_of-self-2
invariant_of-self-2 c = record {
  known = known_settled c.self.inside.nonces c.self.inside.last c.settle.new.nonces c.self.inside.highest c.self.invariant.known c.self.invariant.next c.in_ok-settle.ensures.settled;
  next = subst (λ o. IfSome o (IsNext c.settle.new.nonces c.self.inside.highest)) (sym c.in_ok-settle.ensures.none) tt;
  idle = λ _. c.in_ok-settle.ensures.none;
}

pub returns-clause-contents : goal.returns-clause-contents
returns-clause-contents c =
    let before = c.args.self.now in
    let high = ap (λ (w : WindowValue). w.high) c.self.view_is in
    let same : (key : List ℕ) → live (with_last c.settle.new.nonces c.settle.new.last) key c.self.inside.highest ≡ live (with_last c.self.inside.nonces c.self.inside.last) key c.self.inside.highest = λ key.
    ap (λ o. live (with_last c.settle.new.nonces o) key c.self.inside.highest) c.in_ok-settle.ensures.none
    ∙ live_settled c.self.inside.nonces c.self.inside.last c.settle.new.nonces c.in_ok-settle.ensures.settled key c.self.inside.highest in
    record {
      high = high;
      limit = ap (λ (w : WindowValue). w.limit) c.self.view_is;
      lists = λ entries. (
        λ held key. same key ∙ subst (λ (w : WindowValue). Holds w entries) (sym c.self.view_is) held key,
        λ held. subst (λ (w : WindowValue). Holds w entries) c.self.view_is (λ key. sym (same key) ∙ held key),
      );
    }
