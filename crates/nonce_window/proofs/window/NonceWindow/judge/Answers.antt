use Rattle.std.proofs.Common.{◌∙◌}
use Rattle.nonce_window.proofs.HeldLemmas.{says_known}
use Rattle.nonce_window.proofs.window.NonceWindow.judge.Goals as goal

pub returns : goal.returns
returns c = λ entries held.
    c.verdict.ensures
    ∙ says_known c.args.self.now c.args.key.now (record { timestamp = c.args.timestamp; nonce = c.args.nonce.now }) c.args.now c.requires entries held
