use Rattle.std.proofs.Common.{◌≡◌, sym, ◌∙◌, ap, subst, rules}
use Rattle.indexmap.specs.IndexMap.{insert_entry}
use Rattle.gradebook.specs.Tables.{ArePlacedWithin, IsLaunchNumber, all_eq, all_placed_at}
use Rattle.gradebook.proofs.PlacedLemmas.{launch_found, put_placed-at, put_within}
use Rattle.gradebook.proofs.placements.place.Goals as goal

pub unwrap-numbers-requires : goal.unwrap-numbers-requires
unwrap-numbers-requires c = launch_found c.args.texts.now c.args.key.now c.args.link.now c.args.user.now c.numbers_of.result c.numbers_of.ensures c.requires.key c.requires.link c.requires.user

pub returns-clause-within : goal.returns-clause-within
returns-clause-within c =
    let is = subst (IsLaunchNumber c.args.texts.now c.args.key.now c.args.link.now c.args.user.now) c.unwrap-numbers.ensures c.numbers_of.ensures in
    let made : c.insert.new.self.entries ≡ insert_entry all_eq c.args.placements.now.entries c.unwrap-numbers.result c.args.target = search rules in
    subst (ArePlacedWithin c.args.texts.now) (sym made) (put_within c.args.texts.now c.args.key.now c.args.link.now c.args.user.now c.unwrap-numbers.result is c.args.target c.args.placements.now.entries c.requires.within)

pub returns-clause-placed : goal.returns-clause-placed
returns-clause-placed c =
    let is = subst (IsLaunchNumber c.args.texts.now c.args.key.now c.args.link.now c.args.user.now) c.unwrap-numbers.ensures c.numbers_of.ensures in
    let made : c.insert.new.self.entries ≡ insert_entry all_eq c.args.placements.now.entries c.unwrap-numbers.result c.args.target = search rules in
    ap (all_placed_at c.args.texts.now) made
    ∙ put_placed-at c.args.texts.now c.args.key.now c.args.link.now c.args.user.now c.unwrap-numbers.result is c.args.target c.args.placements.now.entries c.requires.within
