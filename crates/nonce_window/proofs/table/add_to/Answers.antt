use Rattle.std.proofs.Common.{◌∙◌, sym, ap}
use Rattle.std.specs.Map.{set_value}
use Rattle.std.proofs.lemmas.Map.Steps.{set_value_same}
use Rattle.nonce_window.proofs.KeyedLemmas.{on_err}
use Rattle.nonce_window.proofs.PlacedLemmas.{placed_changed}
use Rattle.nonce_window.proofs.TableLemmas.{is_place}
use Rattle.nonce_window.proofs.table.add_to.Goals as goal

pub returns-in_err-add-in-Some-clause-err : goal.returns-in_err-add-in-Some-clause-err
returns-in_err-add-in-Some-clause-err c =
    on_err c.from_residual.result
    ((c.get_mut.follows.holds c.add.new.self).0
    ∙ ap (set_value (is_place c.args.place) c.args.table.now.entries) c.in_err-add-in-Some.ensures.err
    ∙ set_value_same (is_place c.args.place) c.args.table.now.entries c.in-Some.minute.now (sym c.in-Some.ensures.value))

pub returns-in_ok-add-in-Some-clause-placed : goal.returns-in_ok-add-in-Some-clause-placed
returns-in_ok-add-in-Some-clause-placed c =
    placed_changed c.args.table.now.entries (c.get_mut.follows.lender c.add.new.self).entries c.args.place c.in-Some.minute.now c.add.new.self (record { timestamp = c.args.second; nonce = c.args.nonce.now })
    (sym c.in-Some.ensures.value) (c.get_mut.follows.holds c.add.new.self).0 c.in_ok-add-in-Some.ensures.added
