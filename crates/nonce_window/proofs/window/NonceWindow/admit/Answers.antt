use Rattle.std.proofs.Common.{rules, ◌≡◌, ◌<◌, ◌^◌, ap, sym, ◌∙◌, arith, subst, Some, is_some, filter, IfSome, None}
use Rattle.std.proofs.lemmas.Bool.{false≢true}
use Rattle.lti_machine.specs.Nonces.{Stamp, live}
use Rattle.nonce_window.specs.Window.{WindowValue, Holds}
use Rattle.nonce_window.specs.Changes.{passed}
use Rattle.nonce_window.specs.Fresh.{IsNext, is_fresh, signed}
use Rattle.nonce_window.specs.Inside.{ready_of}
use Rattle.nonce_window.specs.Last.{with_last}
use Rattle.nonce_window.proofs.HeldLemmas.{IsNew, new_known}
use Rattle.nonce_window.proofs.WindowLemmas.{some_ready, next_ready, live_ready, passed_holds}
use Rattle.nonce_window.proofs.window.NonceWindow.admit.Goals as goal

pub invariant_of-self : goal.invariant_of-self
invariant_of-self c =
    let stamp : Stamp = record { timestamp = c.args.timestamp; nonce = c.args.nonce.now } in
    let view = c.self.view_is ∙ c.pass.ensures in
    let is_ready : ready_of c.self.inside.ready ≡ Some (c.args.key.now, stamp) = ap (λ (w : WindowValue). w.ready) view ∙ c.requires.ready in
    let idle : c.self.inside.last ≡ None = c.self.invariant.idle (some_ready c.self.inside.ready c.args.key.now stamp is_ready) in
    let at_now : c.self.inside.highest ≡ c.args.now = ap (λ (w : WindowValue). w.high) view ∙ omega (arith, c.requires.moment) in
    let left : c.self.inside.nonces ≡ filter (is_fresh c.self.inside.highest) c.args.self.now.known =
    sym (ap (with_last c.self.inside.nonces) idle) ∙ ap (λ (w : WindowValue). w.known) view ∙ ap (λ n. filter (is_fresh n) c.args.self.now.known) (sym (ap (λ (w : WindowValue). w.high) view)) in
    let new : IsNew c.args.self.now.known c.args.key.now stamp c.self.inside.highest c.args.self.now.limit =
    subst (λ n. IsNew c.args.self.now.known c.args.key.now stamp n c.args.self.now.limit) (sym at_now) (new_known c.args.self.now c.args.key.now stamp c.args.now c.requires.new) in
    let fits : c.args.self.now.limit < 2 ^ 32 = subst (λ n. n < 2 ^ 32) (ap (λ (w : WindowValue). w.limit) view) (search rules) in
    let ready = c.with_nonce.ensures ∙ ap signed c.take-ready.ensures.value in
    record {
      known = c.self.invariant.known;
      next = subst (λ o. IfSome o (IsNext c.self.inside.nonces c.self.inside.highest)) (sym ready)
          (next_ready c.self.inside.ready c.args.self.now.known c.self.inside.nonces c.self.inside.highest c.args.self.now.limit c.args.key.now stamp is_ready left c.self.invariant.known new fits);
      idle = λ h. absurd (false≢true (sym (ap is_some c.take-ready.ensures.after) ∙ h));
    }

pub returns-clause-adds : goal.returns-clause-adds
returns-clause-adds c = λ entries entry held keys stamps key.
    let stamp : Stamp = record { timestamp = c.args.timestamp; nonce = c.args.nonce.now } in
    let view = c.self.view_is ∙ c.pass.ensures in
    let is_ready : ready_of c.self.inside.ready ≡ Some (c.args.key.now, stamp) = ap (λ (w : WindowValue). w.ready) view ∙ c.requires.ready in
    let idle : c.self.inside.last ≡ None = c.self.invariant.idle (some_ready c.self.inside.ready c.args.key.now stamp is_ready) in
    let ready = c.with_nonce.ensures ∙ ap signed c.take-ready.ensures.value in
    let now_held : Holds (passed c.args.self.now c.args.now) entries = passed_holds c.args.self.now c.args.now entries held in
    let here : live (with_last c.self.inside.nonces c.self.inside.last) key c.self.inside.highest ≡ live entries key c.self.inside.highest =
    subst (λ (w : WindowValue). live w.known key w.high ≡ live entries key w.high) (sym view) (now_held key) in
    ap (λ o. live (with_last c.self.inside.nonces o) key c.self.inside.highest) ready
    ∙ live_ready c.self.inside.ready c.self.inside.nonces entries entry c.self.inside.highest c.args.key.now stamp is_ready keys stamps key
    (ap (λ o. live (with_last c.self.inside.nonces o) key c.self.inside.highest) (sym idle) ∙ here)
