use Rattle.std.proofs.Common.{rules, nat_eq, Some}
use Rattle.std.specs.HashMap.{get, Updates}
use Rattle.lti_machine.proofs.PlaceLemmas.{is_some-placed, IsIndexed-more}
use Rattle.lti_machine.proofs.places.set_place.Goals as goal

pub returns-clause-stay : goal.returns-clause-stay
returns-clause-stay c = λ entries indexed.
    let updates : Updates nat_eq c.args.places.now c.insert.new.self c.args.hash (Some c.args.place) = search rules in
    IsIndexed-more (get nat_eq c.args.places.now) (get nat_eq c.insert.new.self) (is_some-placed (get nat_eq c.args.places.now) (get nat_eq c.insert.new.self) c.args.hash c.args.place updates.0) entries indexed
