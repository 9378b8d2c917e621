use Rattle.std.proofs.Common.{inr, sym, ◌∙◌}
use Rattle.pox_outcomes.proofs.CarriedLemmas.{carried, halts_on, reads_on}
use Rattle.pox_outcomes.proofs.LanguageLemmas.{reads_as}
use Rattle.pox_outcomes.proofs.BodyLemmas.{inside_stops_end, inside_stops_score, inside_stops_other, named_result}
use Rattle.pox_outcomes.proofs.bodies.inside.Goals as goal

pub returns-in_err-behind-clause-stops : goal.returns-in_err-behind-clause-stops
returns-in_err-behind-clause-stops c = carried _ _ _ c.from_residual.ensures.1 (inside_stops_end c.args.name.now c.in-Some.ensures c.in_err-behind.ensures.stops)

pub returns-then-not-is_read_result-clause-stops : goal.returns-then-not-is_read_result-clause-stops
returns-then-not-is_read_result-clause-stops c = inside_stops_other _ _ c.in_default.ensures (sym c.is_read_result.ensures ∙ c.if-not-is_read_result.true)

pub returns-clause-reads : goal.returns-clause-reads
returns-clause-reads c =
    let named = named_result _ (sym c.is_read_result.ensures ∙ c.if-not-is_read_result.false) in
    reads_on _ c.score.ensures.reads (λ score last h. reads_as (λ x i. inr (named, i)) h)

pub returns-clause-stops : goal.returns-clause-stops
returns-clause-stops c =
    let named = named_result _ (sym c.is_read_result.ensures ∙ c.if-not-is_read_result.false) in
    halts_on _ c.score.ensures.stops (λ n s. inside_stops_score c.args.name.now c.in_default.ensures named s)
