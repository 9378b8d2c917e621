use Rattle.std.proofs.lemmas.List.{nil_from_length}
use Rattle.oauth_text.specs.Order.{escaped_parameter}
use Rattle.oauth_sign.proofs.FeedLemmas.{takes_empty, next_joined, all_joined}
use Rattle.oauth_sign.proofs.feed.Feed.push_parameters.Goals as goal

pub returns-in_default-clause-taken : goal.returns-in_default-clause-taken
returns-in_default-clause-taken c =
    rw (nil_from_length c.args.order.now c.in_default.ensures.cases) (takes_empty c.args.self.now)

pub loop-parameter-init : goal.loop-parameter-init
loop-parameter-init c = record { room = c.push_parameter.ensures.room; taken = takes_empty c.push_parameter.new.self }

pub loop-parameter-preserved : goal.loop-parameter-preserved
loop-parameter-preserved c = record {
  room = c.push_parameter-in-loop-parameter.ensures.room;
  taken =
      next_joined escaped_parameter c.push_parameter.new.self c.loop-parameter.self c.push_escaped.new.self c.push_parameter-in-loop-parameter.new.self c.in-Some.others.now c.loop-parameter.parameter-index _ c.loop-parameter-test.true
      c.loop-parameter.invariant.taken c.push_escaped.ensures.taken c.push_parameter-in-loop-parameter.ensures.taken;
}

pub returns-clause-taken : goal.returns-clause-taken
returns-clause-taken c =
    all_joined escaped_parameter c.args.self.now c.push_parameter.new.self c.loop-parameter.self c.args.order.now c.in-Some.others.now c.in-Some.first.now c.loop-parameter.parameter-index
    c.in-Some.ensures.cases.0 c.loop-parameter-test.false c.push_parameter.ensures.taken c.loop-parameter.invariant.taken
