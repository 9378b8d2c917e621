use Rattle.std.proofs.Common.{◌++◌, sym, ◌∙◌}
use Rattle.lti_machine.specs.EntryBytes.{text_bytes}
use Rattle.lti_machine.proofs.FrontLemmas.{text_once}
use Rattle.lti_machine.proofs.entry_reading.take_launch.Goals as goal

pub returns-in_err-user-clause-none : goal.returns-in_err-user-clause-none
returns-in_err-user-clause-none c = λ was link user sourced_id service is.
    let first = text_once c.in_ok-link.link.now link c.in_ok-link.rest.now (text_bytes user ++ (text_bytes sourced_id ++ text_bytes service)) c.in_ok-link.ensures.is_text is.parts.0
    (sym c.in_ok-link.ensures.text ∙ is.bytes_are) in
    c.in_err-user.ensures.none (cc) user (text_bytes sourced_id ++ text_bytes service) is.parts.1 first.1

pub returns-in_err-sourced_id-clause-none : goal.returns-in_err-sourced_id-clause-none
returns-in_err-sourced_id-clause-none c = λ was link user sourced_id service is.
    let first = text_once c.in_ok-link.link.now link c.in_ok-link.rest.now (text_bytes user ++ (text_bytes sourced_id ++ text_bytes service)) c.in_ok-link.ensures.is_text is.parts.0
    (sym c.in_ok-link.ensures.text ∙ is.bytes_are) in
    let second = text_once c.in_ok-user.user.now user c.in_ok-user.rest.now (text_bytes sourced_id ++ text_bytes service) c.in_ok-user.ensures.is_text is.parts.1
    (sym c.in_ok-user.ensures.text ∙ first.1) in
    c.in_err-sourced_id.ensures.none (cc) sourced_id (text_bytes service) is.parts.2 second.1

pub returns-in_err-service-clause-none : goal.returns-in_err-service-clause-none
returns-in_err-service-clause-none c = λ was link user sourced_id service is.
    let first = text_once c.in_ok-link.link.now link c.in_ok-link.rest.now (text_bytes user ++ (text_bytes sourced_id ++ text_bytes service)) c.in_ok-link.ensures.is_text is.parts.0
    (sym c.in_ok-link.ensures.text ∙ is.bytes_are) in
    let second = text_once c.in_ok-user.user.now user c.in_ok-user.rest.now (text_bytes sourced_id ++ text_bytes service) c.in_ok-user.ensures.is_text is.parts.1
    (sym c.in_ok-user.ensures.text ∙ first.1) in
    let third = text_once c.in_ok-sourced_id.sourced_id.now sourced_id c.in_ok-sourced_id.rest.now (text_bytes service) c.in_ok-sourced_id.ensures.is_text is.parts.2
    (sym c.in_ok-sourced_id.ensures.text ∙ second.1) in
    c.in_err-service.ensures.none (cc) service is.parts.3 third.1
