use Rattle.std.proofs.Common.{List, refl, subst}
use Rattle.std.proofs.lemmas.List.{take_more, take_all}
use Rattle.lti_outside.specs.declared.pairs.Pair.{Pair}
use Rattle.oauth_request.specs.Found.{AreFoundIn}
use Rattle.oauth_request.proofs.ProtocolLemmas.{none_stand}
use Rattle.oauth_request.proofs.protocol.found_in.Goals as goal

pub loop-pair-init : goal.loop-pair-init
loop-pair-init c = record { whole = refl; stand = none_stand }

pub loop-pair-preserved : goal.loop-pair-preserved
loop-pair-preserved c =
    rw (take_more c.args.pairs.now c.loop-pair.pair-index c.pair-item.result c.loop-pair-test.true, ← c.pair-item.is) (c.add.ensures _ c.loop-pair.invariant)

pub returns : goal.returns
returns c = subst (λ (pairs : List Pair). AreFoundIn c.loop-pair.found pairs) (take_all _ _ c.loop-pair-test.false) c.loop-pair.invariant
