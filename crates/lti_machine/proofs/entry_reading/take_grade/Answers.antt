use Rattle.std.proofs.Common.{◌≡◌, ◌++◌, None, Some, sym, ap, ◌∙◌, refl, arith}
use Rattle.std.specs.Int.{w128, to_be_bytes}
use Rattle.lti_machine.specs.EntryBytes.{text_bytes}
use Rattle.lti_machine.proofs.FrontLemmas.{text_once}
use Rattle.lti_machine.proofs.NumberLemmas.{great_number_once}
use Rattle.lti_machine.proofs.entry_reading.take_grade.Goals as goal

pub returns-in_err-whole_great_number-clause-none : goal.returns-in_err-whole_great_number-clause-none
returns-in_err-whole_great_number-clause-none c = λ was id score is.
    let first = text_once c.in_ok-id.id.now id c.in_ok-id.rest.now (to_be_bytes w128 score) c.in_ok-id.ensures.is_text is.parts.0 (sym c.in_ok-id.ensures.text ∙ is.bytes_are) in
    c.in_err-whole_great_number.ensures.none (cc) score first.1

pub returns-in_err-score-clause-none : goal.returns-in_err-score-clause-none
returns-in_err-score-clause-none c = λ was id score is.
    let first = text_once c.in_ok-id.id.now id c.in_ok-id.rest.now (to_be_bytes w128 score) c.in_ok-id.ensures.is_text is.parts.0 (sym c.in_ok-id.ensures.text ∙ is.bytes_are) in
    let same : c.in_ok-whole_great_number.field-0 ≡ score =
    great_number_once c.in_ok-whole_great_number.field-0 score c.in_ok-whole_great_number.ensures.range (omega (arith, is.parts.1)) (sym c.in_ok-whole_great_number.ensures.number ∙ first.1) in
    let found = (c.from_parts.ensures score).1 (sym same, omega (arith, same, is.parts.1)) in
    let clash : None ≡ Some score = sym c.in_err-score.was ∙ found in
    absurd (cc)

pub returns-clause-grade : goal.returns-clause-grade
returns-clause-grade c =
    let made = (c.from_parts.ensures c.in_ok-score.score).0 (cc) in
    record {
      number_is = refl;
      bytes_are = c.in_ok-id.ensures.text ∙ ap (λ l. text_bytes c.in_ok-id.id.now ++ l) (c.in_ok-whole_great_number.ensures.number ∙ ap (λ n. to_be_bytes w128 n) (sym made.0));
      parts = (c.in_ok-id.ensures.is_text, omega (arith, made.0, made.1));
    }
