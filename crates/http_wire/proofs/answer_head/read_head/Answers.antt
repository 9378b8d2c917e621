use Rattle.std.proofs.Common.{◌≡◌, inl, inr, refl, sym, arith, None, map, take}
use Rattle.httparse.specs.Spans.{header_bytes}
use Rattle.http_wire.specs.Conditions.{first_fault}
use Rattle.http_wire.specs.Lines.{line_conditions}
use Rattle.http_wire.specs.Answer.{AnswerHeadParts, IsAnswerOf, answer_head_parts_of, answer_conditions}
use Rattle.http_wire.specs.AnswerFront.{IsAnswerFront}
use Rattle.http_wire.proofs.FieldLemmas.{answer_room, feeds_are_pairs}
use Rattle.http_wire.proofs.ConditionLemmas.{lines_passed}
use Rattle.http_wire.proofs.ReadingLemmas.{parts_told}
use Rattle.http_wire.proofs.answer_head.read_head.Goals as goal

pub returns-in_default : goal.returns-in_default
returns-in_default c =
    let fine : first_fault (line_conditions c.args.limits.now c.args.head.now) ≡ None = sym c.in_ok-check_lines.ensures in
    let passed = lines_passed c.args.limits.now c.args.head.now fine in
    let feeds = feeds_are_pairs c.args.head.now 0 passed.1 in
    inr (fine, inl (refl, λ h reads. c.in_default.ensures.none h (answer_room c.args.head.now h reads (omega (arith, feeds, passed.0, c.requires))) reads))

pub returns : goal.returns
returns c =
    let parsed = c.in-Some.ensures.some in
    let at = parsed.1 in
    let head_parts : AnswerHeadParts = record {
      status = c.in-Some.spans.code;
      headers = map (header_bytes c.args.head.now) (take c.in-Some.spans.headers c.parse_whole.new.headers);
    } in
    let is : head_parts ≡ answer_head_parts_of parsed.0 = λ i. record { status = at.code i; headers = at.fields i } in
    parts_told IsAnswerOf answer_head_parts_of (answer_conditions c.args.limits.now) c.args.limits.now c.args.head.now IsAnswerFront head_parts parsed.0 (sym c.in_ok-check_lines.ensures) parsed.2 is c.read_parts.result c.read_parts.ensures
