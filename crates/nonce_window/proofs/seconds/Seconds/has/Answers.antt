use Rattle.std.proofs.Common.{ℕ, Bool, nat_eq, ap, sym, ◌∙◌}
use Rattle.std.specs.Int.{bit_at}
use Rattle.std.specs.List.{list_any}
use Rattle.nonce_window.proofs.SecondLemmas.{any_below}
use Rattle.nonce_window.proofs.seconds.Seconds.has.Goals as goal

pub returns : goal.returns
returns c =
    let p : ℕ → Bool = λ s. nat_eq (bit_at c.self.inside.bits s) 1 in
    c.is_set.ensures
    ∙ sym (any_below p c.args.second 60 c.requires)
    ∙ ap (list_any (nat_eq c.args.second)) c.self.view_is
