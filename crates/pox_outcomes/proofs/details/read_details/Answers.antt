use Rattle.std.proofs.Common.{[], ◌∷◌}
use Rattle.pox_outcomes.specs.Answer.{severity_word, description_word, message_ref_word, operation_ref_word, status_end}
use Rattle.pox_outcomes.proofs.CarriedLemmas.{carried, halts}
use Rattle.pox_outcomes.proofs.LanguageLemmas.{reads_then}
use Rattle.pox_outcomes.proofs.OptionalLemmas.{optional_reads}
use Rattle.pox_outcomes.proofs.DetailsLemmas.{severity_closing, description_closing, message_closing, operation_closing, details_stops, behind_severity, description_stops, behind_description, message_stops, behind_message, operation_stops, behind_operation, ended_stops_status, ended_stops_body, ended_stops_end}
use Rattle.pox_outcomes.proofs.details.read_details.Goals as goal

pub returns-in_err-severity-clause-stops : goal.returns-in_err-severity-clause-stops
returns-in_err-severity-clause-stops c =
    carried _ _ _ c.from_residual.ensures.1
    (halts _ c.in_err-severity.ensures.stops (λ n s. details_stops s))

pub returns-in_err-description-clause-stops : goal.returns-in_err-description-clause-stops
returns-in_err-description-clause-stops c =
    carried _ _ _ c.from_residual-in_err-description.ensures.1
    (halts _ c.in_err-description.ensures.stops (λ n s. (behind_severity _ c.in_ok-severity.ensures.reads (description_stops s))))

pub returns-in_err-message_ref-clause-stops : goal.returns-in_err-message_ref-clause-stops
returns-in_err-message_ref-clause-stops c =
    carried _ _ _ c.from_residual-in_err-message_ref.ensures.1
    (halts _ c.in_err-message_ref.ensures.stops (λ n s. (behind_severity _ c.in_ok-severity.ensures.reads (behind_description _ c.in_ok-description.ensures.reads (message_stops s)))))

pub returns-in_err-operation_ref-clause-stops : goal.returns-in_err-operation_ref-clause-stops
returns-in_err-operation_ref-clause-stops c =
    carried _ _ _ c.from_residual-in_err-operation_ref.ensures.1
    (halts _ c.in_err-operation_ref.ensures.stops (λ n s. (behind_severity _ c.in_ok-severity.ensures.reads (behind_description _ c.in_ok-description.ensures.reads (behind_message _ c.in_ok-message_ref.ensures.reads (operation_stops s))))))

pub returns-in_err-opened-clause-stops : goal.returns-in_err-opened-clause-stops
returns-in_err-opened-clause-stops c =
    carried _ _ _ c.from_residual-in_err-opened.ensures.1
    (behind_severity _ c.in_ok-severity.ensures.reads (behind_description _ c.in_ok-description.ensures.reads (behind_message _ c.in_ok-message_ref.ensures.reads (behind_operation _ c.in_ok-operation_ref.ensures.reads (ended_stops_status c.in_err-opened.ensures.stops)))))

pub returns-in_err-score_text-clause-stops : goal.returns-in_err-score_text-clause-stops
returns-in_err-score_text-clause-stops c =
    carried _ _ _ c.from_residual-in_err-score_text.ensures.1
    (halts _ c.in_err-score_text.ensures.stops (λ n s. (behind_severity _ c.in_ok-severity.ensures.reads (behind_description _ c.in_ok-description.ensures.reads (behind_message _ c.in_ok-message_ref.ensures.reads (behind_operation _ c.in_ok-operation_ref.ensures.reads (ended_stops_body c.in_ok-opened.ensures.reads s)))))))

pub returns-in_err-behind-clause-stops : goal.returns-in_err-behind-clause-stops
returns-in_err-behind-clause-stops c =
    carried _ _ _ c.from_residual-in_err-behind.ensures.1
    (behind_severity _ c.in_ok-severity.ensures.reads (behind_description _ c.in_ok-description.ensures.reads (behind_message _ c.in_ok-message_ref.ensures.reads (behind_operation _ c.in_ok-operation_ref.ensures.reads (ended_stops_end _ c.in_ok-opened.ensures.reads c.in_ok-score_text.ensures.reads c.in_err-behind.ensures.stops)))))

pub returns-clause-reads : goal.returns-clause-reads
returns-clause-reads c =
    optional_reads severity_word (description_word ∷ message_ref_word ∷ operation_ref_word ∷ status_end ∷ []) severity_closing _ c.in_ok-severity.ensures.reads
    (optional_reads description_word (message_ref_word ∷ operation_ref_word ∷ status_end ∷ []) description_closing _ c.in_ok-description.ensures.reads
    (optional_reads message_ref_word (operation_ref_word ∷ status_end ∷ []) message_closing _ c.in_ok-message_ref.ensures.reads
    (optional_reads operation_ref_word (status_end ∷ []) operation_closing _ c.in_ok-operation_ref.ensures.reads
    (reads_then c.in_ok-opened.ensures.reads (reads_then c.in_ok-score_text.ensures.reads c.in_ok-behind.ensures.reads)))))
