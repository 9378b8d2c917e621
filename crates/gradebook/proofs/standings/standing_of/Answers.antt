use Rattle.std.proofs.Common.{sym, ap, ◌∙◌, unwrap_or, Some, None}
use Rattle.lti_machine.specs.declared.standing.Standing.TheVariants.{Unknown}
use Rattle.gradebook.proofs.RowLemmas.{standing_in-at, lookup_nothing}
use Rattle.gradebook.proofs.standings.standing_of.Goals as goal

pub returns-in-Some-get : goal.returns-in-Some-get
returns-in-Some-get c =
    ap (λ found. unwrap_or found Unknown) c.in-Some-get.ensures.value
    ∙ sym (standing_in-at c.args.texts.now c.args.key.now c.args.id.now (Some c.in-Some.numbers) c.in-Some.ensures c.args.standings.now.entries c.requires)

pub returns-in-None-get : goal.returns-in-None-get
returns-in-None-get c =
    ap (λ found. unwrap_or found Unknown) c.in-None-get.ensures.value
    ∙ sym (standing_in-at c.args.texts.now c.args.key.now c.args.id.now (Some c.in-Some.numbers) c.in-Some.ensures c.args.standings.now.entries c.requires)

pub returns-in-None : goal.returns-in-None
returns-in-None c =
    ap (λ found. unwrap_or found Unknown) (sym (lookup_nothing c.args.standings.now.entries))
    ∙ sym (standing_in-at c.args.texts.now c.args.key.now c.args.id.now None c.in-None.ensures c.args.standings.now.entries c.requires)
