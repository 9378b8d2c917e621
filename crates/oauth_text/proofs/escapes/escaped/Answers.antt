use Rattle.std.proofs.Common.{◌<◌, arith}
use Rattle.std.proofs.lemmas.List.Elements.{All-from_get_or, recursion_from_All}
use Rattle.oauth_text.proofs.EscapeLemmas.{percent_encode-escape}
use Rattle.oauth_text.proofs.escapes.escaped.Goals as goal

pub returns : goal.returns
returns c =
    let small = recursion_from_All (λ b. b < 256) _ (All-from_get_or (λ b. b < 256) c.args.text.now 0 (λ i within. omega (arith, c.type_inv.text i))) in
    rw (← percent_encode-escape c.args.text.now small, ← c.utf8_percent_encode.ensures.text) c.into_cow.ensures.value
