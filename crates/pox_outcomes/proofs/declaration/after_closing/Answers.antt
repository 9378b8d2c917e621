use Rattle.pox_outcomes.specs.Declaration.{closings}
use Rattle.pox_outcomes.proofs.CarriedLemmas.{carried, stops_on}
use Rattle.pox_outcomes.proofs.DeclarationLemmas.{word_read, stops_ended, stops_behind_white, reads_ended}
use Rattle.pox_outcomes.proofs.declaration.after_closing.Goals as goal

pub returns-in_default-clause-stops : goal.returns-in_default-clause-stops
returns-in_default-clause-stops c = stops_on _ c.follow.ensures.stops (λ n s. stops_ended c.in_default.ensures s)

pub returns-in_err-behind-clause-stops : goal.returns-in_err-behind-clause-stops
returns-in_err-behind-clause-stops c = carried _ _ _ c.from_residual.ensures.1 (stops_behind_white c.in-Some.ensures c.in_err-behind.ensures.stops)

pub returns-clause-reads : goal.returns-clause-reads
returns-clause-reads c = reads_ended c.in-Some.ensures (word_read closings _ 5 c.in_ok-behind.ensures.place c.in_ok-behind.ensures.reads)
