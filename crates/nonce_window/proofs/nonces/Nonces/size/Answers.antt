use Rattle.std.proofs.Common.{◌/◌, ap, ◌∙◌, filter, nat_le}
use Rattle.std.specs.List.{sum_by}
use Rattle.nonce_window.specs.Sizes.{capped, entry_size}
use Rattle.nonce_window.proofs.SoundLemmas.{entries_left}
use Rattle.nonce_window.proofs.nonces.Nonces.size.Goals as goal

pub returns : goal.returns
returns c =
    c.size.ensures
    ∙ ap (λ es. capped (sum_by entry_size es)) (entries_left c.self.inside.keys c.args.first c.self.inside.table.entries c.self.invariant.table.within
    ∙ ap (filter (λ e. nat_le c.args.first (e.timestamp / 60))) c.self.view_is)
