use Rattle.std.proofs.Common.{◌∙◌, sym, subst}
use Rattle.nonce_window.specs.Added.{IsAdded}
use Rattle.nonce_window.proofs.KeyedLemmas.{none_from}
use Rattle.nonce_window.proofs.MinuteLemmas.{stamps_new}
use Rattle.nonce_window.proofs.minute.add_second.Goals as goal

pub returns-clause-added : goal.returns-clause-added
returns-clause-added c =
    stamps_new c.args.nonces.now.entries c.insert.new.self.entries c.in_ok-nonce.nonce c.add.new.self c.args.second c.args.nonce.now
    c.in_ok-nonce.ensures.ok (none_from _ (sym c.contains_key.ensures ∙ c.if-contains_key.false)) c.in_ok-insert.ensures.entries (subst (λ l. IsAdded l c.args.second c.add.new.self) c.none-seconds.ensures c.add.ensures)
