use Rattle.std.proofs.Common.{◌∷◌, ◌++◌, [], map, take, ap, sym, ◌∙◌}
use Rattle.std.specs.List.{slice_index_or}
use Rattle.std.proofs.lemmas.List.{take_more, map-append}
use Rattle.lti_launch.specs.declared.fields.LaunchField.TheVariants.{Roles}
use Rattle.lti_launch.specs.declared.found.Found.TheVariants.{Absent}
use Rattle.lti_launch.specs.Parameters.{values}
use Rattle.lti_launch.specs.Found.{found_in}
use Rattle.lti_launch.proofs.found.nothing_found.Goals as goal

pub loop-preserved : goal.loop-preserved
unfolding values
loop-preserved c =
    let fields = c.all-fields.result.now in
    let place = c.loop.index in
    c.in_ok-push.ensures.items ∙ ap (λ xs. xs ++ Absent ∷ []) c.loop.invariant
    ∙ sym (ap (map (found_in [])) (take_more fields place Roles c.loop-test.true) ∙ map-append (found_in []) (take place fields) (slice_index_or fields place Roles ∷ []))
