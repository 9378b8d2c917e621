use Rattle.std.proofs.Common.{◌≡◌, ◌++◌, List, ℕ, inr, ap, ◌∙◌}
use Rattle.http_wire.specs.declared.message.Media.TheVariants.{Xml}
use Rattle.pox_outcomes.specs.Answered.{answer_text}
use Rattle.lti_provider.specs.Answers.{told_answer}
use Rattle.lti_session.proofs.rendering.render_into.Goals as goal

pub returns-in-Some-clause-answer : goal.returns-in-Some-clause-answer
returns-in-Some-clause-answer c =
    let told = c.outcome_answer.ensures in
    let body = told.2 ∙ ap (λ (b : List ℕ). b ++ answer_text c.in-Some.outcome told.0) c.requires.empty in
    let same : record { status = 200; media = Xml; body = c.outcome_answer.new.out.list } ≡ told_answer c.in-Some.outcome told.0 = λ i. record { status = 200; media = Xml; body = body i } in
    rw (c.in-Some.is) (inr (told.0, told.1, same))
