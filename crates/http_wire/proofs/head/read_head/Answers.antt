use Rattle.std.proofs.Common.{◌≡◌, inl, inr, refl, sym, arith, IsAscii, subst, ◌∙◌, None, map, take}
use Rattle.httparse.specs.Spans.{header_bytes}
use Rattle.http_wire.specs.Conditions.{first_fault}
use Rattle.http_wire.specs.Lines.{line_conditions}
use Rattle.http_wire.proofs.FieldLemmas.{room, feeds_are_pairs}
use Rattle.http_wire.proofs.HeaderLemmas.{token_is_ascii}
use Rattle.http_wire.specs.Head.{HeadParts, IsRequestOf, head_parts_of, part_conditions}
use Rattle.http_wire.specs.Front.{IsFront}
use Rattle.http_wire.proofs.ReadingLemmas.{parts_told}
use Rattle.http_wire.proofs.ConditionLemmas.{lines_passed}
use Rattle.http_wire.proofs.head.read_head.Goals as goal

pub returns-in_default : goal.returns-in_default
returns-in_default c =
    let fine : first_fault (line_conditions c.args.limits.now c.args.head.now) ≡ None = sym c.in_ok-check_lines.ensures in
    let passed = lines_passed c.args.limits.now c.args.head.now fine in
    let feeds = feeds_are_pairs c.args.head.now 0 passed.1 in
    inr (fine, inl (refl, λ h reads. c.in_default.ensures.none h (room c.args.head.now h reads (omega (arith, feeds, passed.0, c.requires))) reads))

pub read_parts-requires-clause-method : goal.read_parts-requires-clause-method
read_parts-requires-clause-method c =
    let parsed = c.in-Some.ensures.some in
    subst IsAscii (sym (c.of.ensures ∙ parsed.1.method)) (token_is_ascii parsed.0.method parsed.2.0.method)

pub returns : goal.returns
returns c =
    let parsed = c.in-Some.ensures.some in
    let at = parsed.1 in
    let head_parts : HeadParts = record {
      method = c.of.result.now;
      target = c.of-2.result.now;
      minor = c.in-Some.spans.version;
      headers = map (header_bytes c.args.head.now) (take c.in-Some.spans.headers c.parse_whole.new.headers);
    } in
    let is : head_parts ≡ head_parts_of parsed.0
    = λ i. record { method = (c.of.ensures ∙ at.method) i; target = (c.of-2.ensures ∙ at.path) i; minor = at.version i; headers = at.fields i } in
    parts_told IsRequestOf head_parts_of (part_conditions c.args.limits.now) c.args.limits.now c.args.head.now IsFront head_parts parsed.0 (sym c.in_ok-check_lines.ensures) parsed.2 is c.read_parts.result c.read_parts.ensures
