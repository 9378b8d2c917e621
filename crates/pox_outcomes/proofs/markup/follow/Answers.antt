use Rattle.std.proofs.Common.{◌≡◌, ◌==◌, false, eq-eqb, get_or, ◌+◌, sym, subst, arith}
use Rattle.std.proofs.lemmas.Bool.Decides.{nat_tests}
use Rattle.pox_outcomes.proofs.MarkupLemmas.{Going, going_space, going_byte, going_end, going_stops}
use Rattle.pox_outcomes.proofs.markup.follow.Goals as goal

pub loop-piece-preserved-then-piece-eq32 : goal.loop-piece-preserved-then-piece-eq32
loop-piece-preserved-then-piece-eq32 c =
    let m = c.args.markup.now in
    let at = c.loop-piece.piece-index in
    subst (Going m c.args.bytes.now (at + 1)) (sym c.skip_white-rest.ensures)
    (going_space m c.args.bytes.now c.loop-piece.rest.now at c.loop-piece-test.true (eq-eqb (get_or m at 0) 32 c.if-piece-eq32.true) c.loop-piece.invariant)

pub returns-in_default-clause-stops : goal.returns-in_default-clause-stops
returns-in_default-clause-stops c =
    let m = c.args.markup.now in
    let at = c.loop-piece.piece-index in
    let other : (get_or m at 0 == 32) ≡ false = grind (arith, nat_tests) in
    going_stops m c.args.bytes.now c.loop-piece.rest.now at c.loop-piece-test.true other c.in_default.ensures c.loop-piece.invariant

pub loop-piece-preserved : goal.loop-piece-preserved
loop-piece-preserved c =
    let m = c.args.markup.now in
    let at = c.loop-piece.piece-index in
    let other : (get_or m at 0 == 32) ≡ false = grind (arith, nat_tests) in
    going_byte m c.args.bytes.now c.in-Some.others.now at c.loop-piece-test.true other (subst (Going m c.args.bytes.now at) c.in-Some.ensures c.loop-piece.invariant)

pub returns-clause-reads : goal.returns-clause-reads
returns-clause-reads c = going_end c.args.markup.now c.args.bytes.now c.loop-piece.rest.now c.loop-piece.piece-index c.loop-piece-test.false c.loop-piece.invariant
