use Rattle.std.proofs.Common.{rules}
use Rattle.lti_machine.specs.HeadView.{head_of}
use Rattle.lti_machine.proofs.FrontLemmas.{no_head, head_in_range, effect_behind}
use Rattle.lti_machine.proofs.entry_reading.read_entry.Goals as goal

pub returns-in_default-clause-no_reading : goal.returns-in_default-clause-no_reading
returns-in_default-clause-no_reading c = λ was entry is. no_head c.args.bytes.now (c.in_default.ensures.none (cc)) entry is

pub returns-then-not-is_in_range-clause-no_reading : goal.returns-then-not-is_in_range-clause-no_reading
returns-then-not-is_in_range-clause-no_reading c = λ was entry is.
    let range = head_in_range c.args.bytes.now (head_of c.in-Some.head) c.in-Some.rest.now entry c.in-Some.ensures.head is in
    let held = c.is_in_range.ensures.1 range in
    absurd (search (rules, held))

pub returns-in_err-effect-clause-no_reading : goal.returns-in_err-effect-clause-no_reading
returns-in_err-effect-clause-no_reading c = λ was entry is.
    c.in_err-effect.ensures.none (search (rules, was)) entry.effect (effect_behind c.args.bytes.now (head_of c.in-Some.head) c.in-Some.rest.now entry c.in-Some.ensures.head is)
