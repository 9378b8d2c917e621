use Rattle.pox_outcomes.proofs.CarriedLemmas.{halts_on}
use Rattle.pox_outcomes.proofs.TextLemmas.{mark_stops, literal_stops}
use Rattle.pox_outcomes.proofs.texts.push_unit.Goals as goal

pub returns-in-Some-clause-stops : goal.returns-in-Some-clause-stops
returns-in-Some-clause-stops c = halts_on _ c.push_reference.ensures.stops (λ n s. mark_stops _ _ n c.in-Some.ensures s)

pub returns-in-None-clause-stops : goal.returns-in-None-clause-stops
returns-in-None-clause-stops c = halts_on _ c.push_literal.ensures.stops (λ n s. literal_stops _ n c.in-None.ensures s)
