use Rattle.std.proofs.Common.{arith}
use Rattle.pox_outcomes.specs.Declaration.{parts}
use Rattle.pox_outcomes.proofs.CarriedLemmas.{carried, stops_on, rests_on, found_at}
use Rattle.pox_outcomes.proofs.DeclarationLemmas.{stops_ended, version_stops_part, version_stops_behind, version_reads, part_empty}
use Rattle.pox_outcomes.proofs.declaration.after_version.Goals as goal

pub returns-in_default-clause-stops : goal.returns-in_default-clause-stops
returns-in_default-clause-stops c = stops_on _ c.follow.ensures.stops (λ n s. stops_ended c.in_default.ensures s)

pub returns-in_err-place-clause-stops : goal.returns-in_err-place-clause-stops
returns-in_err-place-clause-stops c = carried _ _ _ c.from_residual.ensures.1 (version_stops_part _ c.in-Some.ensures c.in_err-place.ensures.stops)

pub returns-then-place-eq0-clause-reads : goal.returns-then-place-eq0-clause-reads
returns-then-place-eq0-clause-reads c =
    rests_on _ c.after_encoding.ensures.reads (λ last h. version_reads 0 c.in-Some.ensures (omega arith) (found_at parts _ 0 c.if-place-eq0.true c.in_ok-place.ensures.reads) h)

pub returns-then-place-eq0-clause-stops : goal.returns-then-place-eq0-clause-stops
returns-then-place-eq0-clause-stops c =
    stops_on _ c.after_encoding.ensures.stops (λ n s. version_stops_behind 0 n c.in-Some.ensures (omega arith) (found_at parts _ 0 c.if-place-eq0.true c.in_ok-place.ensures.reads) s)

pub returns-then-place-eq1-clause-reads : goal.returns-then-place-eq1-clause-reads
returns-then-place-eq1-clause-reads c =
    rests_on _ c.after_encoding-then-place-eq1.ensures.reads (λ last h. version_reads 1 c.in-Some.ensures (omega arith) (found_at parts _ 1 c.if-place-eq1.true c.in_ok-place.ensures.reads) h)

pub returns-then-place-eq1-clause-stops : goal.returns-then-place-eq1-clause-stops
returns-then-place-eq1-clause-stops c =
    stops_on _ c.after_encoding-then-place-eq1.ensures.stops (λ n s. version_stops_behind 1 n c.in-Some.ensures (omega arith) (found_at parts _ 1 c.if-place-eq1.true c.in_ok-place.ensures.reads) s)

pub returns-clause-reads : goal.returns-clause-reads
returns-clause-reads c = version_reads _ c.in-Some.ensures c.in_ok-place.ensures.place c.in_ok-place.ensures.reads (part_empty _ _ c.if-place-eq0.false c.if-place-eq1.false)
