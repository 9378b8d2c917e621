use Rattle.std.proofs.Common.{◌≡◌, None, Some, Ok, inl, inr, refl, rules}
use Rattle.lti_machine.specs.Placements.{PlacementValue, placement}
use Rattle.lti_operator.specs.Passing.EndsFirst.{nowhere}
use Rattle.lti_operator.proofs.passing.send_score.Goals as goal

pub returns-in_default : goal.returns-in_default
returns-in_default g c = λ entries holds.
    let none : placement entries c.args.passback.now.key.now c.args.passback.now.link.now c.args.passback.now.user.now ≡ None = search rules in
    inl (refl, nowhere (inl none) refl)

pub returns-in-Err-BadUrl : goal.returns-in-Err-BadUrl
returns-in-Err-BadUrl g c = λ entries holds.
    let placed : PlacementValue = record { sourced_id = c.in-Some.placement.sourced_id.now; service = c.in-Some.placement.service.now } in
    let is : placement entries c.args.passback.now.key.now c.args.passback.now.link.now c.args.passback.now.user.now ≡ Some placed = search rules in
    inl (refl, nowhere (inr (placed, is, λ url is_url. c.in-Err-BadUrl.ensures.bad (cc) url is_url)) refl)

pub returns-in-Ok-came : goal.returns-in-Ok-came
returns-in-Ok-came g c = λ entries holds.
    let placed : PlacementValue = record { sourced_id = c.in-Some.placement.sourced_id.now; service = c.in-Some.placement.service.now } in
    let is : placement entries c.args.passback.now.key.now c.args.passback.now.link.now c.args.passback.now.user.now ≡ Some placed = search rules in
    inr (record {
      placed = placed;
      placed_is = is;
      sending = _;
      sending_is = record {
        url = c.in-Ok.ensures.found;
        outcome = c.in-Ok-outcome_of.ensures;
        key = refl;
        secret_is = refl;
        moment = c.made_moment-moment.ensures.made;
        nonce = search rules;
      };
      came = Ok c.in-Ok-came.answer;
      passed = c.in-Ok-came.ensures;
      status_is = c.by_major.ensures;
    })
