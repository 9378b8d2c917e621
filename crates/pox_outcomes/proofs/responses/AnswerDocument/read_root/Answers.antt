use Rattle.std.proofs.Common.{sym}
use Rattle.pox_outcomes.specs.Answer.{majors}
use Rattle.pox_outcomes.proofs.CarriedLemmas.{carried, halts, found_at}
use Rattle.pox_outcomes.proofs.LanguageLemmas.{reads_then}
use Rattle.pox_outcomes.proofs.AnswerLemmas.{answer_once, answer_stops_head, answer_stops_major, answer_stops_details}
use Rattle.pox_outcomes.proofs.responses.AnswerDocument.read_root.Goals as goal

pub returns-in_err-message-clause-stops : goal.returns-in_err-message-clause-stops
returns-in_err-message-clause-stops c = carried _ _ _ c.from_residual.ensures.1 (halts _ c.in_err-message.ensures.stops (λ n s. answer_stops_head s))

pub returns-in_err-place-clause-stops : goal.returns-in_err-place-clause-stops
returns-in_err-place-clause-stops c = carried _ _ _ c.from_residual-in_err-place.ensures.1 (answer_stops_major _ c.in_ok-message.ensures.reads c.in_err-place.ensures.stops)

pub returns-in_err-said-clause-stops : goal.returns-in_err-said-clause-stops
returns-in_err-said-clause-stops c =
    let word = found_at majors _ _ (sym c.major_at-major.ensures) c.in_ok-place.ensures.reads in
    carried _ _ _ c.from_residual-in_err-said.ensures.1 (halts _ c.in_err-said.ensures.stops (λ n s. answer_stops_details _ c.major_at-major.result c.in_ok-message.ensures.reads word s))

pub returns-clause-reads : goal.returns-clause-reads
returns-clause-reads c =
    let word = found_at majors _ _ (sym c.major_at-major.ensures) c.in_ok-place.ensures.reads in
    reads_then c.in_ok-message.ensures.reads (reads_then word c.in_ok-said.ensures.reads)

pub returns-in_err-message-clause-once : goal.returns-in_err-message-clause-once
returns-in_err-message-clause-once c = answer_once

pub returns-in_err-place-clause-once : goal.returns-in_err-place-clause-once
returns-in_err-place-clause-once c = answer_once

pub returns-in_err-said-clause-once : goal.returns-in_err-said-clause-once
returns-in_err-said-clause-once c = answer_once

pub returns-clause-once : goal.returns-clause-once
returns-clause-once c = answer_once
