use Rattle.std.proofs.Common.{refl}
use Rattle.pox_outcomes.specs.Declaration.{versions}
use Rattle.pox_outcomes.proofs.CarriedLemmas.{carried}
use Rattle.pox_outcomes.proofs.LanguageLemmas.{reads_then}
use Rattle.pox_outcomes.proofs.SequenceLemmas.{stops_first_part, stops_second_part}
use Rattle.pox_outcomes.proofs.DeclarationLemmas.{word_read, free_words, free_white, white_read, version_some, declaration_dark}
use Rattle.pox_outcomes.proofs.declaration.after_declaration.Goals as goal

pub returns-in_default-clause-stops : goal.returns-in_default-clause-stops
returns-in_default-clause-stops c = declaration_dark c.args.bytes.now c.in_default.ensures

pub returns-in_err-last-clause-stops : goal.returns-in_err-last-clause-stops
returns-in_err-last-clause-stops c = carried _ _ _ c.from_residual.ensures.1 (stops_second_part free_white (white_read c.in-Some.ensures) (stops_first_part version_some c.in_err-last.ensures.stops))

pub returns-in_err-behind-clause-stops : goal.returns-in_err-behind-clause-stops
returns-in_err-behind-clause-stops c =
    let version = word_read versions _ 2 c.in_ok-last.ensures.place c.in_ok-last.ensures.reads in
    carried _ _ _ c.from_residual-in_err-behind.ensures.1
    (stops_second_part free_white (white_read c.in-Some.ensures) (stops_second_part (free_words versions refl) version c.in_err-behind.ensures.stops))

pub returns-clause-reads : goal.returns-clause-reads
returns-clause-reads c = reads_then (white_read c.in-Some.ensures) (reads_then (word_read versions _ 2 c.in_ok-last.ensures.place c.in_ok-last.ensures.reads) c.in_ok-behind.ensures.reads)
