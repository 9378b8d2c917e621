use Rattle.std.proofs.Common.{Some, None, sym, ◌∙◌, ap}
use Rattle.std.specs.Option.{option_map}
use Rattle.gradebook.specs.Tables.{placement_of}
use Rattle.gradebook.proofs.PlacedLemmas.{map_copied, placement_in-at, launch_nothing}
use Rattle.gradebook.proofs.placements.target_of.Goals as goal

pub returns-in_err-numbers : goal.returns-in_err-numbers
returns-in_err-numbers c =
    ap (option_map (λ target. placement_of target.now)) c.from_residual.ensures
    ∙ ap (option_map placement_of) (sym (launch_nothing c.args.placements.now.entries))
    ∙ placement_in-at c.args.texts.now c.args.key.now c.args.link.now c.args.user.now None c.in_err-numbers.ensures c.args.placements.now.entries c.requires

pub returns : goal.returns
returns c =
    map_copied placement_of c.get.result
    ∙ ap (option_map placement_of) c.get.ensures.value
    ∙ placement_in-at c.args.texts.now c.args.key.now c.args.link.now c.args.user.now (Some c.in_ok-numbers.numbers) c.in_ok-numbers.ensures c.args.placements.now.entries c.requires
