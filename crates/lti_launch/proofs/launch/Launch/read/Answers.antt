use Rattle.std.proofs.Common.{sym, subst, ◌∙◌, ap}
use Rattle.lti_launch.specs.Launch.{launch_of, IsLaunch}
use Rattle.lti_launch.proofs.LaunchLemmas.{sorted_launch, is_launch}
use Rattle.lti_launch.proofs.launch.Launch.read.Goals as goal

pub invariant_of-result : goal.invariant_of-result
invariant_of-result c =
    let pairs = c.as_slice.result.now in
    let sorted = c.in_ok-sorted.sorted in
    subst IsLaunch (sym (sorted_launch sorted pairs c.in_ok-sorted.ensures)) (is_launch pairs (c.in_ok-judge.ensures pairs c.in_ok-sorted.ensures))

pub returns-clause-launch : goal.returns-clause-launch
returns-clause-launch c = sorted_launch c.in_ok-sorted.sorted c.as_slice.result.now c.in_ok-sorted.ensures ∙ ap launch_of c.as_slice.ensures
