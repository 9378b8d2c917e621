use Rattle.std.proofs.Common.{◌++◌, ◌/◌, ap, ◌∙◌, map, filter, nat_le}
use Rattle.nonce_window.specs.Nonces.{entries_of}
use Rattle.nonce_window.specs.Triples.{plain_of}
use Rattle.nonce_window.proofs.ForgetLemmas.{stays}
use Rattle.nonce_window.proofs.SoundLemmas.{entries_left}
use Rattle.nonce_window.proofs.nonces.Nonces.list.Goals as goal

pub returns : goal.returns
returns c =
    c.in_ok-list.ensures
    ∙ ap (λ l. map plain_of l ++ entries_of c.self.inside.keys (filter (stays c.args.first) c.self.inside.table.entries)) c.new-triples.ensures.items
    ∙ entries_left c.self.inside.keys c.args.first c.self.inside.table.entries c.self.invariant.table.within
    ∙ ap (filter (λ e. nat_le c.args.first (e.timestamp / 60))) c.self.view_is
