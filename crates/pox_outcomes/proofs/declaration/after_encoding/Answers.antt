use Rattle.std.proofs.Common.{refl}
use Rattle.pox_outcomes.specs.Declaration.{encodings}
use Rattle.pox_outcomes.proofs.CarriedLemmas.{carried}
use Rattle.pox_outcomes.proofs.LanguageLemmas.{reads_then}
use Rattle.pox_outcomes.proofs.SequenceLemmas.{some_then, stops_first_part, stops_second_part}
use Rattle.pox_outcomes.proofs.MarkupLemmas.{markup_one, free_markup}
use Rattle.pox_outcomes.proofs.DeclarationLemmas.{word_read, free_words, closing_some}
use Rattle.pox_outcomes.proofs.declaration.after_encoding.Goals as goal

pub returns-in_err-rest-clause-stops : goal.returns-in_err-rest-clause-stops
returns-in_err-rest-clause-stops c = carried _ _ _ c.from_residual.ensures.1 (stops_first_part (some_then (markup_one c.args.quote.now) closing_some) c.in_err-rest.ensures.stops)

pub returns-in_err-last-clause-stops : goal.returns-in_err-last-clause-stops
returns-in_err-last-clause-stops c =
    let name = word_read encodings _ 8 c.in_ok-rest.ensures.place c.in_ok-rest.ensures.reads in
    carried _ _ _ c.from_residual-in_err-last.ensures.1 (stops_second_part (free_words encodings refl) name (stops_first_part closing_some c.in_err-last.ensures.stops))

pub returns-in_err-behind-clause-stops : goal.returns-in_err-behind-clause-stops
returns-in_err-behind-clause-stops c =
    let name = word_read encodings _ 8 c.in_ok-rest.ensures.place c.in_ok-rest.ensures.reads in
    carried _ _ _ c.from_residual-in_err-behind.ensures.1
    (stops_second_part (free_words encodings refl) name (stops_second_part (free_markup c.args.quote.now c.requires) c.in_ok-last.ensures.reads c.in_err-behind.ensures.stops))

pub returns-clause-reads : goal.returns-clause-reads
returns-clause-reads c = reads_then (word_read encodings _ 8 c.in_ok-rest.ensures.place c.in_ok-rest.ensures.reads) (reads_then c.in_ok-last.ensures.reads c.in_ok-behind.ensures.reads)
