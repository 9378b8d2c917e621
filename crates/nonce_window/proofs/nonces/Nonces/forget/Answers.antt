use Rattle.std.proofs.Common.{◌∙◌, ◌/◌, sym, ap, subst, nat_le, filter}
use Rattle.std.specs.List.{AllByRecursion}
use Rattle.nonce_window.specs.Nonces.{AreWithin, entries_of}
use Rattle.nonce_window.proofs.SoundLemmas.{entries_left, within_left}
use Rattle.nonce_window.proofs.nonces.Nonces.forget.Goals as goal

pub invariant_of-self : goal.invariant_of-self
invariant_of-self c = record {
  table = record {
    ordered = c.forget.ensures.ordered;
    within = subst (AllByRecursion AreWithin) (sym c.forget.ensures.entries) (within_left c.args.first c.self.inside.table.entries c.self.invariant.table.within);
  };
  counted = c.forget.ensures.counted;
  long = c.forget.ensures.long ∙ c.self.invariant.long;
}

pub returns : goal.returns
returns c =
    ap (entries_of c.self.inside.keys) c.forget.ensures.entries
    ∙ entries_left c.self.inside.keys c.args.first c.self.inside.table.entries c.self.invariant.table.within
    ∙ ap (filter (λ e. nat_le c.args.first (e.timestamp / 60))) c.self.view_is
