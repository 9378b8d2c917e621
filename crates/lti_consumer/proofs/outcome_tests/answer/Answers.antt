use Rattle.std.proofs.Common.{◌≡◌, true, rules}
use Rattle.lti_asks.specs.Outcomes.{is_of_outcomes}
use Rattle.lti_consumer.proofs.outcome_tests.answer.Goals as goal

pub told-requires : goal.told-requires
told-requires c =
    let accepted : is_of_outcomes c.result-reply.result ≡ true = search rules in
    c.accepted_is_told.ensures c.in_ok-action.outcome c.in_ok-action.action c.result-reply.result c.in_ok-action.ensures.call.asked c.result-reply.ensures.belongs accepted
