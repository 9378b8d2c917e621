use Rattle.std.proofs.Common.{◌∙◌, sym, nat_cmp, arith}
use Rattle.oauth_text.proofs.OrderLemmas.{alike_there, apart_there, ended_there}
use Rattle.oauth_text.proofs.order.compared.Goals as goal

pub loop-place-preserved : goal.loop-place-preserved
loop-place-preserved c =
    c.loop-place.invariant
    ∙ alike_there c.args.a.now c.args.b.now c.loop-place.place (omega arith) (omega arith) c.if-a-place.false

pub returns-then-a-place : goal.returns-then-a-place
returns-then-a-place c =
    c.cmp.ensures
    ∙ (λ i. nat_cmp (c.rank.ensures i) (c.rank-then-a-place.ensures i))
    ∙ apart_there c.args.a.now c.args.b.now c.loop-place.place (omega arith) (omega arith) (omega (arith, c.type_inv.a c.loop-place.place)) (omega (arith, c.type_inv.b c.loop-place.place)) c.if-a-place.true
    ∙ sym c.loop-place.invariant

pub returns : goal.returns
returns c =
    c.cmp-2.ensures ∙ ended_there c.args.a.now c.args.b.now c.loop-place.place (omega arith) ∙ sym c.loop-place.invariant
