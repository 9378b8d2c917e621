use Rattle.std.proofs.Common.{◌≤◌, subst, ◌∙◌, arith}
use Rattle.nonce_window.specs.Nonces.{AreCounted, Table}
use Rattle.std.specs.List.{All}
use Rattle.std.specs.Map.{keys_of}
use Rattle.nonce_window.proofs.AddLemmas.{at_zero}
use Rattle.nonce_window.proofs.ForgetLemmas.{forgets_one, forgotten, one_le}
use Rattle.nonce_window.proofs.table.forget.Goals as goal

pub overflow_sub-index_mut : goal.overflow_sub-index_mut
overflow_sub-index_mut c =
    let counted = subst (AreCounted c.loop-place.counts.items) c.in-Some.ensures.popped c.loop-place.invariant.counted in
    let read = at_zero c.loop-place.counts.items c.in-Some.place.1 c.index_mut.result.now counted.numbered.0 c.index_mut.ensures.value in
    omega (arith, read, one_le c.loop-place.counts.items c.in-Some.place c.in-Some.minute c.pop_before.new.table.entries counted, c.count.ensures)

pub loop-place-preserved : goal.loop-place-preserved
loop-place-preserved c =
    let counted = subst (AreCounted c.loop-place.counts.items) c.in-Some.ensures.popped c.loop-place.invariant.counted in
    let read = at_zero c.loop-place.counts.items c.in-Some.place.1 c.index_mut.result.now counted.numbered.0 c.index_mut.ensures.value in
    rw (read, c.count.ensures)
    (forgets_one c.args.first c.args.table.now.entries c.args.counts.now.items c.loop-place.table.entries c.loop-place.counts.items c.in-Some.place c.in-Some.minute c.pop_before.new.table.entries c.loop-place.invariant c.in-Some.ensures.popped c.in-Some.ensures.before c.in-Some.ensures.ordered)

pub returns-clause-entries : goal.returns-clause-entries
returns-clause-entries c =
    c.in_default.ensures.unchanged
    ∙ forgotten c.args.first c.args.table.now.entries c.args.counts.now.items c.loop-place.table.entries c.loop-place.counts.items c.loop-place.invariant (subst (λ (t : Table). All (λ q. c.args.first ≤ q.0) (keys_of t)) c.in_default.ensures.unchanged c.in_default.ensures.none)
