use Rattle.pox_outcomes.proofs.CarriedLemmas.{stops_on, reads_on}
use Rattle.pox_outcomes.proofs.ReferenceLemmas.{leads_x, reads_x, stops_ten}
use Rattle.pox_outcomes.proofs.references.numeral.Goals as goal

pub returns-in-Some-clause-reads : goal.returns-in-Some-clause-reads
returns-in-Some-clause-reads c = reads_on _ c.number.ensures.reads (λ code last h. reads_x code c.in-Some.ensures h)

pub returns-in-Some-clause-stops : goal.returns-in-Some-clause-stops
returns-in-Some-clause-stops c = stops_on _ c.number.ensures.stops (leads_x _ _ c.in-Some.ensures).stops

pub returns-in-None-clause-stops : goal.returns-in-None-clause-stops
returns-in-None-clause-stops c = stops_on _ c.number-in-None.ensures.stops (λ n s. stops_ten _ n c.in-None.ensures s)
