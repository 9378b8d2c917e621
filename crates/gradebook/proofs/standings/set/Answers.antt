use Rattle.std.proofs.Common.{Some, None, sym, ◌∙◌, ap, subst}
use Rattle.gradebook.specs.Tables.{AreRowsWithin, both_eq, rows_at}
use Rattle.gradebook.proofs.RowLemmas.{set_row-at, set_within, set_row-none, lookup_nothing}
use Rattle.gradebook.proofs.standings.set.Goals as goal

pub returns-in_default-clause-rows : goal.returns-in_default-clause-rows
returns-in_default-clause-rows c =
    set_row-none c.args.texts.now c.args.key.now c.args.id.now None c.in_default.ensures c.args.standing c.args.standings.now.entries c.requires (lookup_nothing c.args.standings.now.entries)

pub returns-in-Some-get_mut-clause-within : goal.returns-in-Some-get_mut-clause-within
returns-in-Some-get_mut-clause-within c =
    subst (AreRowsWithin c.args.texts.now) (sym (c.get_mut.follows.holds c.args.standing).0)
    (set_within c.args.texts.now (both_eq c.in-Some.numbers) c.args.standing c.args.standings.now.entries c.requires)

pub returns-in-Some-get_mut-clause-rows : goal.returns-in-Some-get_mut-clause-rows
returns-in-Some-get_mut-clause-rows c =
    ap (rows_at c.args.texts.now) (c.get_mut.follows.holds c.args.standing).0
    ∙ set_row-at c.args.texts.now c.args.key.now c.args.id.now (Some c.in-Some.numbers) c.in-Some.ensures c.args.standing c.args.standings.now.entries c.requires

pub returns-in-None-clause-rows : goal.returns-in-None-clause-rows
returns-in-None-clause-rows c =
    ap (λ table. rows_at c.args.texts.now table.entries) c.get_mut.follows.holds-at-none
    ∙ set_row-none c.args.texts.now c.args.key.now c.args.id.now (Some c.in-Some.numbers) c.in-Some.ensures c.args.standing c.args.standings.now.entries c.requires (sym c.in-None.ensures.value)
