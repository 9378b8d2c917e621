use Rattle.std.proofs.Common.{[], refl}
use Rattle.pox_outcomes.proofs.CarriedLemmas.{carried}
use Rattle.pox_outcomes.proofs.LanguageLemmas.{stops_same}
use Rattle.pox_outcomes.proofs.requests.no_score.Goals as goal

pub returns-in_err-behind-clause-stops : goal.returns-in_err-behind-clause-stops
returns-in_err-behind-clause-stops c = carried _ _ _ c.from_residual.ensures.1 (stops_same _ _ (λ x m. ([], (refl, m))) (λ x h. h.1.1) c.in_err-behind.ensures.stops)
