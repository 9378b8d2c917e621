use Rattle.std.proofs.Common.{sym}
use Rattle.pox_outcomes.specs.Request.{operations}
use Rattle.pox_outcomes.proofs.CarriedLemmas.{carried, halts, found_at}
use Rattle.pox_outcomes.proofs.LanguageLemmas.{reads_then}
use Rattle.pox_outcomes.proofs.DocumentLemmas.{envelope_once, envelope_stops_head, envelope_stops_operation, envelope_stops_id, envelope_stops_tail}
use Rattle.pox_outcomes.proofs.requests.OutcomeDocument.read_root.Goals as goal

pub returns-in_err-message-clause-stops : goal.returns-in_err-message-clause-stops
returns-in_err-message-clause-stops c = carried _ _ _ c.from_residual.ensures.1 (halts _ c.in_err-message.ensures.stops (λ n s. envelope_stops_head s))

pub returns-in_err-place-clause-stops : goal.returns-in_err-place-clause-stops
returns-in_err-place-clause-stops c = carried _ _ _ c.from_residual-in_err-place.ensures.1 (envelope_stops_operation _ c.in_ok-message.ensures.reads c.in_err-place.ensures.stops)

pub returns-in_err-sourced_id-clause-stops : goal.returns-in_err-sourced_id-clause-stops
returns-in_err-sourced_id-clause-stops c =
    let word = found_at operations _ _ (sym c.operation_at-operation.ensures) c.in_ok-place.ensures.reads in
    carried _ _ _ c.from_residual-in_err-sourced_id.ensures.1 (halts _ c.in_err-sourced_id.ensures.stops (λ n s. envelope_stops_id _ c.operation_at-operation.result c.in_ok-message.ensures.reads word s))

pub returns-in_err-score_text-clause-stops : goal.returns-in_err-score_text-clause-stops
returns-in_err-score_text-clause-stops c =
    let word = found_at operations _ _ (sym c.operation_at-operation.ensures) c.in_ok-place.ensures.reads in
    carried _ _ _ c.from_residual-in_err-score_text.ensures.1
    (halts _ c.in_err-score_text.ensures.stops (λ n s. envelope_stops_tail _ c.operation_at-operation.result _ c.in_ok-message.ensures.reads word c.in_ok-sourced_id.ensures.reads s))

pub returns-clause-reads : goal.returns-clause-reads
returns-clause-reads c =
    let word = found_at operations _ _ (sym c.operation_at-operation.ensures) c.in_ok-place.ensures.reads in
    reads_then c.in_ok-message.ensures.reads (reads_then word (reads_then c.in_ok-sourced_id.ensures.reads c.in_ok-score_text.ensures.reads))

pub returns-in_err-message-clause-once : goal.returns-in_err-message-clause-once
returns-in_err-message-clause-once c = envelope_once

pub returns-in_err-place-clause-once : goal.returns-in_err-place-clause-once
returns-in_err-place-clause-once c = envelope_once

pub returns-in_err-sourced_id-clause-once : goal.returns-in_err-sourced_id-clause-once
returns-in_err-sourced_id-clause-once c = envelope_once

pub returns-in_err-score_text-clause-once : goal.returns-in_err-score_text-clause-once
returns-in_err-score_text-clause-once c = envelope_once

pub returns-clause-once : goal.returns-clause-once
returns-clause-once c = envelope_once
