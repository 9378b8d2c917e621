use Rattle.pox_outcomes.specs.References.{openings}
use Rattle.pox_outcomes.proofs.CarriedLemmas.{carried, stops_on, reads_on, found_at}
use Rattle.pox_outcomes.proofs.ReferenceLemmas.{reference_stops, numeral_stops, numeral_reads}
use Rattle.pox_outcomes.proofs.references.reference.Goals as goal

pub returns-in_err-place-clause-stops : goal.returns-in_err-place-clause-stops
returns-in_err-place-clause-stops c = carried _ _ _ c.from_residual.ensures.1 (reference_stops _ _ c.in_err-place.ensures.stops)

pub returns-then-place-eq5-clause-reads : goal.returns-then-place-eq5-clause-reads
returns-then-place-eq5-clause-reads c = reads_on _ c.numeral.ensures.reads (λ code last h. numeral_reads code (found_at openings _ 5 c.if-place-eq5.true c.in_ok-place.ensures.reads) h)

pub returns-then-place-eq5-clause-stops : goal.returns-then-place-eq5-clause-stops
returns-then-place-eq5-clause-stops c = stops_on _ c.numeral.ensures.stops (λ n s. numeral_stops _ _ n (found_at openings _ 5 c.if-place-eq5.true c.in_ok-place.ensures.reads) s)
