use Rattle.std.proofs.Common.{◌∙◌, sym}
use Rattle.nonce_window.proofs.KeyedLemmas.{none_from}
use Rattle.nonce_window.proofs.PlacedLemmas.{placed_new}
use Rattle.nonce_window.proofs.table.add_at.Goals as goal

pub returns-clause-placed : goal.returns-clause-placed
returns-clause-placed c =
    placed_new c.args.table.now.entries c.insert.new.self.entries c.args.place c.new-minute.result c.add.new.self (record { timestamp = c.args.second; nonce = c.args.nonce.now })
    (none_from _ (sym c.contains_key.ensures ∙ c.if-contains_key.false)) c.in_ok-insert.ensures.entries c.new-minute.ensures c.in_ok-add.ensures.added
