use Rattle.std.proofs.Common.{◌++◌, ℕ, List, ap, ◌∙◌}
use Rattle.pox_outcomes.specs.Written.{escape_text}
use Rattle.pox_outcomes.specs.Answered.{answer_start, status, description, operation_name, response, referring, operating, answering, answer_end}
use Rattle.pox_outcomes.proofs.WritingLemmas.{append_step}
use Rattle.pox_outcomes.proofs.answers.write_answer.Goals as goal

pub returns : goal.returns
returns c =
    let out = c.args.out.now.list in
    let told = c.args.told in
    let operation = c.args.outcome.now.operation in
    let message = c.args.outcome.now.message in
    let id = c.args.outcome.now.sourced_id in
    let message_is = c.as_bytes-message.ensures.value ∙ c.get.ensures in
    let id_is = c.as_bytes-sourced_id.ensures.value ∙ c.get-2.ensures in
    let p1 = answer_start ++ escape_text message in
    let e1 = append_step out answer_start (escape_text message) _ _ c.put.ensures.list (c.put_text.ensures.list ∙ ap (λ (t : List ℕ). c.put.new.out.list ++ escape_text t) message_is) in
    let p2 = p1 ++ status told in
    let e2 = append_step out p1 (status told) _ _ e1 c.put_status.ensures.list in
    let p3 = p2 ++ description told id in
    let e3 = append_step out p2 (description told id) _ _ e2 (c.put_description.ensures.list ∙ ap (λ (t : List ℕ). c.put_status.new.out.list ++ description told t) id_is) in
    let p4 = p3 ++ referring in
    let e4 = append_step out p3 referring _ _ e3 c.put-2.ensures.list in
    let p5 = p4 ++ escape_text message in
    let e5 = append_step out p4 (escape_text message) _ _ e4 (c.put_text-2.ensures.list ∙ ap (λ (t : List ℕ). c.put-2.new.out.list ++ escape_text t) message_is) in
    let p6 = p5 ++ operating ++ operation_name operation in
    let e6 = append_step out (p5 ++ operating) (operation_name operation) _ _ (append_step out p5 operating _ _ e5 c.put-3.ensures.list) c.put_operation.ensures.list in
    let p7 = p6 ++ answering ++ response operation told in
    let e7 = append_step out (p6 ++ answering) (response operation told) _ _ (append_step out p6 answering _ _ e6 c.put-4.ensures.list) c.put_response.ensures.list in
    append_step out p7 answer_end _ _ e7 c.put-5.ensures.list
