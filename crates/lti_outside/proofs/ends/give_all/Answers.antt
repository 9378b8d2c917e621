use Rattle.std.proofs.Common.{[], ◌++◌, take, refl, arith}
use Rattle.std.proofs.lemmas.Grind.{common_steps}
use Rattle.lti_outside.proofs.TrafficLemmas.{Moves-same, Moves-gives}
use Rattle.lti_outside.proofs.ends.give_all.Goals as goal

pub loop-rest-init : goal.loop-rest-init
loop-rest-init g c = ([], refl, Moves-same _)

pub loop-rest-preserved : goal.loop-rest-preserved
loop-rest-preserved g c =
    let so_far = c.loop-rest.invariant in
    (so_far.0 ++ take c.in_ok-count.count c.loop-rest.rest.now, grind (arith, common_steps, so_far.1), Moves-gives so_far.2 c.in_ok-count.ensures.given)
