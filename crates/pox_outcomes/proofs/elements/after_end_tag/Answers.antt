use Rattle.std.proofs.Common.{refl, codes}
use Rattle.pox_outcomes.proofs.CarriedLemmas.{carried}
use Rattle.pox_outcomes.proofs.LanguageLemmas.{reads_then}
use Rattle.pox_outcomes.proofs.SequenceLemmas.{stops_first_part, stops_second_part}
use Rattle.pox_outcomes.proofs.MarkupLemmas.{markup_one, free_markup}
use Rattle.pox_outcomes.proofs.ElementLemmas.{behind_slash}
use Rattle.pox_outcomes.proofs.elements.after_end_tag.Goals as goal

pub returns-in_err-rest-clause-stops : goal.returns-in_err-rest-clause-stops
returns-in_err-rest-clause-stops c = carried _ _ _ c.from_residual.ensures.1 (stops_first_part (behind_slash c.args.name.now) c.in_err-rest.ensures.stops)

pub returns-in_err-last-clause-stops : goal.returns-in_err-last-clause-stops
returns-in_err-last-clause-stops c =
    carried _ _ _ c.from_residual-in_err-last.ensures.1
    (stops_second_part (free_markup (codes "/") refl) c.in_ok-rest.ensures.reads (stops_first_part (markup_one (codes " >")) c.in_err-last.ensures.stops))

pub returns-in_err-behind-clause-stops : goal.returns-in_err-behind-clause-stops
returns-in_err-behind-clause-stops c =
    carried _ _ _ c.from_residual-in_err-behind.ensures.1
    (stops_second_part (free_markup (codes "/") refl) c.in_ok-rest.ensures.reads (stops_second_part (free_markup c.args.name.now c.requires) c.in_ok-last.ensures.reads c.in_err-behind.ensures.stops))

pub returns-clause-reads : goal.returns-clause-reads
returns-clause-reads c = reads_then c.in_ok-rest.ensures.reads (reads_then c.in_ok-last.ensures.reads c.in_ok-behind.ensures.reads)
