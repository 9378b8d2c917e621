use Rattle.std.proofs.Common.{◌∙◌, sym, ap, false, nat_eq}
use Rattle.std.specs.List.{list_any}
use Rattle.lti_machine.specs.Nonces.{Stamp, same_stamp}
use Rattle.nonce_window.proofs.KeyedLemmas.{found_or}
use Rattle.nonce_window.proofs.MinuteLemmas.{any_stamps}
use Rattle.nonce_window.proofs.minute.Minute.holds.Goals as goal

pub returns-in-Some : goal.returns-in-Some
returns-in-Some c =
    let stamp : Stamp = record { timestamp = c.args.second; nonce = c.args.nonce.now } in
    c.has.ensures
    ∙ sym (any_stamps c.self.inside.nonces.entries c.args.second c.args.nonce.now c.self.invariant.ordered ∙ ap (found_or false (list_any (nat_eq c.args.second))) (sym c.in-Some.ensures.value))
    ∙ ap (list_any (same_stamp stamp)) c.self.view_is

pub returns-in-None : goal.returns-in-None
returns-in-None c =
    let stamp : Stamp = record { timestamp = c.args.second; nonce = c.args.nonce.now } in
    sym (any_stamps c.self.inside.nonces.entries c.args.second c.args.nonce.now c.self.invariant.ordered ∙ ap (found_or false (list_any (nat_eq c.args.second))) (sym c.in-None.ensures.value))
    ∙ ap (list_any (same_stamp stamp)) c.self.view_is
