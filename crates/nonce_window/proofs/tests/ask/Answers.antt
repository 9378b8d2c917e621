use Rattle.std.proofs.Common.{sym, ◌∙◌}
use Rattle.lti_machine.specs.declared.verdict.Verdict.TheVariants.{New}
use Rattle.nonce_window.proofs.HeldLemmas.{says_after}
use Rattle.nonce_window.proofs.tests.ask.Goals as goal

pub admit-requires-clause-new : goal.admit-requires-clause-new
admit-requires-clause-new c =
    says_after c.args.window.now c.prepare.new.self _ (record { timestamp = c.args.timestamp; nonce = c.args.nonce.now }) c.max-now.result New c.prepare.ensures.contents
    (λ entries held. sym c.in-New.is ∙ c.judge-verdict.ensures entries held)
