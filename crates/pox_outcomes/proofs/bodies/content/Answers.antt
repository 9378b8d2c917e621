use Rattle.std.proofs.Common.{inr}
use Rattle.pox_outcomes.specs.Markup.{IsMarkup}
use Rattle.pox_outcomes.specs.Body.{IsElement}
use Rattle.pox_outcomes.proofs.CarriedLemmas.{carried, halts}
use Rattle.pox_outcomes.proofs.LanguageLemmas.{reads_as, reads_then}
use Rattle.pox_outcomes.proofs.SequenceLemmas.{before_here, before_on}
use Rattle.pox_outcomes.proofs.MarkupLemmas.{markup_one}
use Rattle.pox_outcomes.proofs.BodyLemmas.{closing, content_stops_end, content_stops_one, element_once}
use Rattle.pox_outcomes.proofs.bodies.content.Goals as goal

pub returns-in_err-behind-clause-stops : goal.returns-in_err-behind-clause-stops
returns-in_err-behind-clause-stops c = carried _ _ _ c.from_residual.ensures.1 (content_stops_end c.in-Some.ensures c.in_err-behind.ensures.stops)

pub returns-in_err-score-clause-stops : goal.returns-in_err-score-clause-stops
returns-in_err-score-clause-stops c =
    carried _ _ _ c.from_residual-in_err-score.ensures.1
    (halts _ c.in_err-score.ensures.stops (λ n s. content_stops_one c.in_default.ensures (before_here IsElement (IsMarkup closing) (markup_one closing) s)))

pub returns-in_err-behind-2-clause-stops : goal.returns-in_err-behind-2-clause-stops
returns-in_err-behind-2-clause-stops c =
    carried _ _ _ c.from_residual-in_err-behind-2.ensures.1
    (content_stops_one c.in_default.ensures (before_on IsElement (IsMarkup closing) element_once _ c.in_ok-score.ensures.reads c.in_err-behind-2.ensures.stops))

pub returns-clause-reads : goal.returns-clause-reads
returns-clause-reads c = reads_as (λ x h. inr h) (reads_then c.in_ok-score.ensures.reads c.in_ok-behind-2.ensures.reads)
