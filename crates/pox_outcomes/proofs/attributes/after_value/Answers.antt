use Rattle.pox_outcomes.proofs.CarriedLemmas.{carried}
use Rattle.pox_outcomes.proofs.LanguageLemmas.{leads_then}
use Rattle.pox_outcomes.proofs.AttributeLemmas.{leads_value, value_end, value_stops}
use Rattle.pox_outcomes.proofs.attributes.after_value.Goals as goal

pub returns-in-Some-clause-reads : goal.returns-in-Some-clause-reads
returns-in-Some-clause-reads c = value_end _ _ _ _ c.characters.invariant c.in-Some.ensures

pub returns-in_err-rest-clause-stops : goal.returns-in_err-rest-clause-stops
returns-in_err-rest-clause-stops c = carried _ _ _ c.from_residual.ensures.1 (c.characters.invariant.stops _ (value_stops _ _ _ c.in_default.ensures c.in_err-rest.ensures.stops))

pub characters-preserved : goal.characters-preserved
characters-preserved c = leads_then _ _ _ c.characters.invariant (leads_value _ _ _ c.in_ok-rest.ensures.reads)
