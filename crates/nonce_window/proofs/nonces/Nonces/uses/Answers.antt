use Rattle.std.proofs.Common.{◌∙◌, ◌%◌, sym, ap, false}
use Rattle.std.specs.List.{list_any}
use Rattle.lti_machine.specs.Nonces.{Stamp, same_stamp, stamp_of, stands}
use Rattle.nonce_window.proofs.KeyedLemmas.{found_or}
use Rattle.nonce_window.proofs.SoundLemmas.{good, numbered}
use Rattle.nonce_window.proofs.TableLemmas.{stands_found, none_found}
use Rattle.nonce_window.proofs.nonces.Nonces.uses.Goals as goal

pub returns-in_default : goal.returns-in_default
returns-in_default c =
    let stamp : Stamp = record { timestamp = c.args.timestamp; nonce = c.args.nonce.now } in
    sym (none_found c.self.inside.keys c.args.key.now c.in_default.ensures (λ e. same_stamp stamp (stamp_of e)) c.self.inside.table.entries (numbered c.self.inside c.self.invariant))
    ∙ ap (λ es. stands es c.args.key.now stamp) c.self.view_is

pub returns-in-Some-get : goal.returns-in-Some-get
returns-in-Some-get c =
    let stamp : Stamp = record { timestamp = c.args.timestamp; nonce = c.args.nonce.now } in
    let inner : Stamp = record { timestamp = c.args.timestamp % 60; nonce = c.args.nonce.now } in
    c.holds.ensures
    ∙ sym (stands_found c.self.inside.keys c.args.key.now c.in-Some.number c.in-Some.ensures c.args.timestamp c.args.nonce.now c.self.inside.table.entries (good c.self.inside c.self.invariant) c.self.invariant.table.ordered
    ∙ ap (found_or false (list_any (same_stamp inner))) (sym c.in-Some-get.ensures.value))
    ∙ ap (λ es. stands es c.args.key.now stamp) c.self.view_is

pub returns-in-None : goal.returns-in-None
returns-in-None c =
    let stamp : Stamp = record { timestamp = c.args.timestamp; nonce = c.args.nonce.now } in
    let inner : Stamp = record { timestamp = c.args.timestamp % 60; nonce = c.args.nonce.now } in
    sym (stands_found c.self.inside.keys c.args.key.now c.in-Some.number c.in-Some.ensures c.args.timestamp c.args.nonce.now c.self.inside.table.entries (good c.self.inside c.self.invariant) c.self.invariant.table.ordered
    ∙ ap (found_or false (list_any (same_stamp inner))) (sym c.in-None.ensures.value))
    ∙ ap (λ es. stands es c.args.key.now stamp) c.self.view_is
