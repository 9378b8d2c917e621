use Rattle.std.proofs.Common.{◌∷◌, ◌++◌, [], max, ap, sym, ◌∙◌, arith}
use Rattle.lti_machine.specs.Nonces.{live}
use Rattle.nonce_window.specs.Window.{WindowValue}
use Rattle.nonce_window.proofs.KnownLemmas.{live-fresh}
use Rattle.nonce_window.proofs.window.NonceWindow.load.Goals as goal

pub returns-clause-adds : goal.returns-clause-adds
returns-clause-adds c = λ entries entry held keys stamps key.
    let added = c.in_ok-add_once.ensures.added in
    let later = max c.args.self.now.high c.args.moment in
    let same = ap (λ n. max n c.args.moment) added.high in
    ap (λ (w : WindowValue). live w.known key w.high) c.pass.ensures
    ∙ live-fresh c.add_once.new.self.known key (max c.add_once.new.self.high c.args.moment) (max c.add_once.new.self.high c.args.moment) (omega arith)
    ∙ ap (live c.add_once.new.self.known key) same
    ∙ added.lists entries entry held keys stamps key
    ∙ ap (live (entries ++ entry ∷ []) key) (sym same ∙ sym (ap (λ (w : WindowValue). w.high) c.pass.ensures))
