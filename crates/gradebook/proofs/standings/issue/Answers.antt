use Rattle.std.proofs.Common.{◌≡◌, Some, sym, ◌∙◌, ap, subst, rules}
use Rattle.std.proofs.lemmas.Bool.{cond-true, cond-false}
use Rattle.lti_machine.specs.declared.standing.Standing.TheVariants.{Empty}
use Rattle.indexmap.specs.IndexMap.{insert_entry}
use Rattle.indexmap.proofs.CallerLemmas.{insert_entry-new}
use Rattle.gradebook.specs.Tables.{AreRowsWithin, IsOwnedNumber, both_eq, rows_at}
use Rattle.gradebook.proofs.RowLemmas.{owned_found, has_row-at, push_row-at, push_within, none_from}
use Rattle.gradebook.proofs.standings.issue.Goals as goal

pub unwrap-numbers-requires : goal.unwrap-numbers-requires
unwrap-numbers-requires c = owned_found c.args.texts.now c.args.key.now c.args.id.now c.numbers_of.result c.numbers_of.ensures c.requires.key c.requires.id

pub returns-then-contains_key-clause-rows : goal.returns-then-contains_key-clause-rows
returns-then-contains_key-clause-rows c =
    let is = subst (IsOwnedNumber c.args.texts.now c.args.key.now c.args.id.now) c.unwrap-numbers.ensures c.numbers_of.ensures in
    let there = has_row-at c.args.texts.now c.args.key.now c.args.id.now (Some c.unwrap-numbers.result) is c.args.standings.now.entries c.requires.within ∙ sym c.contains_key.ensures ∙ c.if-contains_key.true in
    sym (cond-true _ _ _ there)

pub returns-clause-within : goal.returns-clause-within
returns-clause-within c =
    let is = subst (IsOwnedNumber c.args.texts.now c.args.key.now c.args.id.now) c.unwrap-numbers.ensures c.numbers_of.ensures in
    let made : c.insert.new.self.entries ≡ insert_entry both_eq c.args.standings.now.entries c.unwrap-numbers.result Empty = search rules in
    let new = insert_entry-new both_eq c.args.standings.now c.unwrap-numbers.result Empty (none_from _ (sym c.contains_key.ensures ∙ c.if-contains_key.false)) in
    subst (AreRowsWithin c.args.texts.now) (sym (made ∙ new)) (push_within c.args.texts.now c.unwrap-numbers.result Empty c.args.standings.now.entries is.within c.requires.within)

pub returns-clause-rows : goal.returns-clause-rows
returns-clause-rows c =
    let is = subst (IsOwnedNumber c.args.texts.now c.args.key.now c.args.id.now) c.unwrap-numbers.ensures c.numbers_of.ensures in
    let made : c.insert.new.self.entries ≡ insert_entry both_eq c.args.standings.now.entries c.unwrap-numbers.result Empty = search rules in
    let new = insert_entry-new both_eq c.args.standings.now c.unwrap-numbers.result Empty (none_from _ (sym c.contains_key.ensures ∙ c.if-contains_key.false)) in
    let missing = has_row-at c.args.texts.now c.args.key.now c.args.id.now (Some c.unwrap-numbers.result) is c.args.standings.now.entries c.requires.within ∙ sym c.contains_key.ensures ∙ c.if-contains_key.false in
    ap (rows_at c.args.texts.now) (made ∙ new)
    ∙ push_row-at c.args.texts.now c.args.key.now c.args.id.now c.unwrap-numbers.result Empty c.args.standings.now.entries is
    ∙ sym (cond-false _ _ _ missing)
