use Rattle.std.proofs.Common.{◌∙◌, sym, ap, false, nat_eq}
use Rattle.std.specs.List.{list_any}
use Rattle.nonce_window.proofs.KeyedLemmas.{found_or}
use Rattle.nonce_window.proofs.MinuteLemmas.{any_stamps, stamps_changed}
use Rattle.nonce_window.proofs.minute.add_to.Goals as goal

pub add-requires-clause-new : goal.add-requires-clause-new
add-requires-clause-new c =
    ap (found_or false (list_any (nat_eq c.args.second))) c.in-Some.ensures.value
    ∙ sym (any_stamps c.args.nonces.now.entries c.args.second c.args.nonce.now c.requires.ordered)
    ∙ c.requires.new

pub returns-in-Some-clause-added : goal.returns-in-Some-clause-added
returns-in-Some-clause-added c =
    stamps_changed c.args.nonces.now.entries (c.get_mut.follows.lender c.add.new.self).entries c.in-Some.seconds.now c.add.new.self c.args.second c.args.nonce.now
    (sym c.in-Some.ensures.value) (c.get_mut.follows.holds c.add.new.self).0 c.add.ensures
