use Rattle.oauth_request.proofs.ProtocolLemmas.{not_duplicate}
use Rattle.oauth_request.proofs.protocol.Protocol.value.Goals as goal

pub returns : goal.returns
returns c = λ pairs single. c.single.ensures _ (c.get.ensures pairs single.found) (not_duplicate pairs single.once c.args.field)
