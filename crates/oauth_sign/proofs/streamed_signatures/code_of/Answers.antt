use Rattle.std.proofs.Common.{[], map}
use Rattle.oauth_text.specs.Normal.{joined}
use Rattle.oauth_text.specs.Order.{escaped_parameter}
use Rattle.oauth_sign.specs.Signature.{base_text}
use Rattle.oauth_sign.proofs.FeedLemmas.{base_taken}
use Rattle.oauth_sign.proofs.streamed_signatures.code_of.Goals as goal

pub returns : goal.returns
returns c = λ key started.
    let normal = joined (map escaped_parameter c.args.order.now) in
    let stands = base_taken c.start-feed.result c.push_upper_case.new.self c.push.new.self c.push_escaped_text.new.self c.push-2.new.self c.push_parameters.new.self
    c.args.method.now c.args.uri.now normal
    c.push_upper_case.ensures.taken c.push.ensures.taken c.push_escaped_text.ensures.taken c.push-2.ensures.taken c.push_parameters.ensures.taken in
    c.finish.ensures key (base_text c.args.method.now c.args.uri.now normal) (stands key [] (c.start-feed.ensures.fed key [] started))
