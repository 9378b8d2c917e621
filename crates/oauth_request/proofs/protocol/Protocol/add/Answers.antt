use Rattle.std.proofs.Common.{◌∙◌, sym, ap, set}
use Rattle.oauth_request.proofs.ProtocolLemmas.{other_added, one_added}
use Rattle.oauth_request.proofs.protocol.Protocol.add.Goals as goal

pub returns-in_default : goal.returns-in_default
returns-in_default c = λ pairs are. other_added c.args.self.now pairs c.args.pair.now are (rw (← c.get.ensures) c.in_default.ensures)

pub returns : goal.returns
returns c = λ pairs are.
    one_added c.args.self.now pairs c.args.pair.now are _ c.in-Some.field _ (sym c.get.ensures ∙ c.in-Some.ensures) (ap (λ i. set c.args.self.now.found i c.more-more.result) c.place.ensures.place) (rw c.get-3.ensures at (c.more-more.ensures _ (c.get-2.ensures pairs are)))
