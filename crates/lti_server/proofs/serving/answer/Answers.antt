use Rattle.std.proofs.Common.{[], Some, refl}
use Rattle.lti_operator.specs.Ladder.Ladder.{own}
use Rattle.lti_operator.proofs.LadderLemmas.{unopened}
use Rattle.lti_server.proofs.serving.answer.Goals as goal

pub returns-in-Err : goal.returns-in-Err
returns-in-Err g c = λ random. unopened _ _ _ _ _ _ refl refl c.in-Err.ensures.unopened

pub returns : goal.returns
returns g c =
    let mounted = c.in-Ok.ensures.mounted in
    let served = c.session-end.ensures in
    λ random. own (Some c.in-Ok.opened.0) c.in-Ok.ensures.settings c.in-Ok.opened.1 mounted [] refl (record {
      to = c.session-end.new.machine;
      end = c.session-end.result;
      served = served;
      history = c.a_run_serves.ensures c.in-Ok.opened.1 c.session-end.new.machine served.told served.answered mounted.keeps;
      disk = c.close.ensures;
      status_is = c.status_of.ensures;
    })
