use Rattle.std.proofs.Common.{◌≡◌, ◌∙◌, ap}
use Rattle.std.specs.Prelude.{max}
use Rattle.lti_machine.specs.Nonces.{stamp_of_call}
use Rattle.lti_machine.specs.declared.verdict.Verdict.TheVariants.{New}
use Rattle.nonce_window.specs.Words.{Says, Adds}
use Rattle.lti_check.proofs.NoteLemmas.{still_new, noted}
use Rattle.lti_check.proofs.noting.note.Goals as goal

pub admit-requires-clause-new : goal.admit-requires-clause-new
admit-requires-clause-new c =
    let says : Says c.args.window.now c.args.call.now.key (stamp_of_call c.args.call.now) c.max-now.result New =
    rw (c.get-key.ensures, c.get-nonce.ensures) at c.in-New.ensures in
    rw (c.get-key.ensures, c.get-nonce.ensures) (still_new c.args.window.now c.args.call.now c.requires c.prepare.new.self c.max-now.result c.prepare.ensures.contents says)

pub returns : goal.returns
returns c =
    let before = c.args.window.now in
    let call = c.args.call.now in
    let now : c.max-now.result ≡ max call.moment before.high = c.max-now.ensures ∙ ap (λ h. max call.moment h) c.high.ensures in
    let says : Says before call.key (stamp_of_call call) (max call.moment before.high) New =
    rw (c.get-key.ensures, c.get-nonce.ensures, now) at c.in-New.ensures in
    let adds : Adds c.prepare.new.self c.admit.new.self call.key (stamp_of_call call) = rw (c.get-key.ensures, c.get-nonce.ensures) at c.admit.ensures.adds in
    noted before call c.requires c.prepare.new.self c.admit.new.self says c.prepare.ensures.contents adds (rw now at c.admit.ensures.high) c.admit.ensures.limit
