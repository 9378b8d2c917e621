use Rattle.std.proofs.Common.{◌∙◌, refl, sym}
use Rattle.std.proofs.lemmas.Bool.{false≢true}
use Rattle.pox_outcomes.specs.Written.{none}
use Rattle.pox_outcomes.proofs.WritingLemmas.{xml_more, xml_back, xml_stops, is_nil, not_nil}
use Rattle.pox_outcomes.proofs.writing.is_xml.Goals as goal

pub characters-preserved : goal.characters-preserved
characters-preserved c =
    let rest = c.characters.rest.now in
    let long = not_nil rest (sym c.is_empty.ensures ∙ c.characters-test.true) in
    (λ x. xml_more rest c.in-Ok.others.now long c.in-Ok.ensures.reads (c.characters.invariant.0 x), λ x. c.characters.invariant.1 (xml_back rest c.in-Ok.others.now c.in-Ok.ensures.reads x))

pub returns-in-Err : goal.returns-in-Err
returns-in-Err c =
    let rest = c.characters.rest.now in
    let long = not_nil rest (sym c.is_empty.ensures ∙ c.characters-test.true) in
    (λ t. absurd (false≢true t), λ x. absurd (xml_stops rest c.in-Err.field-0.left long c.in-Err.ensures.stops (c.characters.invariant.0 x)))

pub returns : goal.returns
returns c =
    let rest = c.characters.rest.now in
    let empty = is_nil rest (sym c.is_empty.ensures ∙ c.characters-test.false) in
    (λ t. c.characters.invariant.1 (none empty), λ x. refl)
