use Rattle.std.proofs.Common.{◌<◌, arith}
use Rattle.std.proofs.lemmas.List.Elements.{All-from_get_or, recursion_from_All}
use Rattle.oauth_sign.proofs.FeedLemmas.{text_twice_escaped}
use Rattle.oauth_sign.proofs.feed.Feed.push_twice_escaped_text.Goals as goal

pub returns-then-bytes-le-FEW-clause-taken : goal.returns-then-bytes-le-FEW-clause-taken
returns-then-bytes-le-FEW-clause-taken c =
    let small = recursion_from_All (λ b. b < 256) _ (All-from_get_or (λ b. b < 256) c.args.text.now 0 (λ i within. omega (arith, c.type_inv.text i))) in
    text_twice_escaped c.args.self.now c.push_few.new.self c.args.text.now c.as_bytes-bytes.result.now small c.as_bytes-bytes.ensures.value c.push_few.ensures.taken

pub returns-else-bytes-le-FEW-clause-taken : goal.returns-else-bytes-le-FEW-clause-taken
returns-else-bytes-le-FEW-clause-taken c =
    let small = recursion_from_All (λ b. b < 256) _ (All-from_get_or (λ b. b < 256) c.args.text.now 0 (λ i within. omega (arith, c.type_inv.text i))) in
    text_twice_escaped c.args.self.now c.push_many.new.self c.args.text.now c.as_bytes-bytes.result.now small c.as_bytes-bytes.ensures.value c.push_many.ensures.taken
