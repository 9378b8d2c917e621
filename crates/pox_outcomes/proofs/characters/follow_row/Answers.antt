use Rattle.std.proofs.Common.{subst}
use Rattle.pox_outcomes.proofs.CharacterLemmas.{Going, going_on, going_end, going_stops}
use Rattle.pox_outcomes.proofs.characters.follow_row.Goals as goal

pub returns-in_default-clause-stops : goal.returns-in_default-clause-stops
returns-in_default-clause-stops c =
    going_stops c.args.row.now c.args.bytes.now c.loop-range.rest.now c.loop-range.range-index c.loop-range-test.true c.in_default.ensures c.loop-range.invariant

pub loop-range-preserved : goal.loop-range-preserved
loop-range-preserved c =
    let found = c.in-Some.ensures in
    going_on c.args.row.now c.args.bytes.now c.in-Some.others.now c.loop-range.range-index found.0 c.loop-range-test.true found.2
    (subst (Going c.args.row.now c.args.bytes.now c.loop-range.range-index) found.1 c.loop-range.invariant)

pub returns-clause-reads : goal.returns-clause-reads
returns-clause-reads c = going_end c.args.row.now c.args.bytes.now c.loop-range.rest.now c.loop-range.range-index c.loop-range-test.false c.loop-range.invariant
