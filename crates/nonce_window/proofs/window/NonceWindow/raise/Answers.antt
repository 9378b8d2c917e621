use Rattle.std.proofs.Common.{sym, subst}
use Rattle.nonce_window.specs.Window.{WindowValue, Holds}
use Rattle.nonce_window.proofs.WindowLemmas.{passed_holds}
use Rattle.nonce_window.proofs.window.NonceWindow.raise.Goals as goal

pub returns-clause-keeps : goal.returns-clause-keeps
returns-clause-keeps c = λ entries held.
    subst (λ (w : WindowValue). Holds w entries) (sym c.pass.ensures) (passed_holds c.args.self.now c.args.moment entries held)
