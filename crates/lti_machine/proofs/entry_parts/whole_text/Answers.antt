use Rattle.std.proofs.Common.{◌≡◌, [], sym, ◌∙◌, rules}
use Rattle.std.proofs.lemmas.List.{append-nil}
use Rattle.lti_machine.specs.EntryBytes.{text_bytes}
use Rattle.lti_machine.proofs.FrontLemmas.{text_once}
use Rattle.lti_machine.proofs.entry_parts.whole_text.Goals as goal

pub returns-in_err-text-clause-none : goal.returns-in_err-text-clause-none
returns-in_err-text-clause-none c = λ was text is_text is. c.in_err-text.ensures.none (cc) text [] is_text (is ∙ sym (append-nil (text_bytes text)))

pub returns-else-is_empty-clause-none : goal.returns-else-is_empty-clause-none
returns-else-is_empty-clause-none c = λ was text is_text is.
    let apart = text_once c.in_ok-text.text.now text c.in_ok-text.rest.now [] c.in_ok-text.ensures.is_text is_text
    (sym c.in_ok-text.ensures.text ∙ is ∙ sym (append-nil (text_bytes text))) in
    let rest : c.in_ok-text.rest.now ≡ [] = apart.1 in
    search (rules, rest)
