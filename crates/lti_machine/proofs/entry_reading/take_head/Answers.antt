use Rattle.std.proofs.Common.{◌++◌, ap, drop, sym, ◌∙◌}
use Rattle.std.specs.Int.{w64, to_be_bytes}
use Rattle.lti_machine.specs.EntryBytes.{text_bytes}
use Rattle.lti_machine.proofs.FrontLemmas.{text_once, number_front}
use Rattle.lti_machine.proofs.entry_reading.take_head.Goals as goal

pub returns-in_err-nonce-clause-none : goal.returns-in_err-nonce-clause-none
returns-in_err-nonce-clause-none c = λ was h rest is.
    let behind = ap (λ l. drop 2 l) (sym c.in_ok-effect.ensures.effect ∙ is.bytes_are) in
    let first = number_front c.in_ok-moment.moment h.moment c.in_ok-moment.rest.now (to_be_bytes w64 h.timestamp ++ (text_bytes h.key ++ (text_bytes h.nonce ++ rest))) c.in_ok-moment.ensures.range is.moment
    (sym c.in_ok-moment.ensures.number ∙ behind) in
    let second = number_front c.in_ok-timestamp.timestamp h.timestamp c.in_ok-timestamp.rest.now (text_bytes h.key ++ (text_bytes h.nonce ++ rest)) c.in_ok-timestamp.ensures.range is.timestamp
    (sym c.in_ok-timestamp.ensures.number ∙ first.1) in
    let third = text_once c.in_ok-key.key.now h.key c.in_ok-key.rest.now (text_bytes h.nonce ++ rest) c.in_ok-key.ensures.is_text is.key (sym c.in_ok-key.ensures.text ∙ second.1) in
    c.in_err-nonce.ensures.none (cc) h.nonce rest is.nonce third.1
