use Rattle.std.proofs.Common.{rules, ◌≡◌, ◌++◌, List, take, refl, sym, ap, ◌∙◌, subst, arith}
use Rattle.std.proofs.lemmas.List.{take_all}
use Rattle.std.specs.List.{AllByRecursion}
use Rattle.std.specs.String.{string_bytes}
use Rattle.lti_outside.specs.declared.pairs.Pair.{Pair}
use Rattle.oauth_text.specs.Form.{AreText}
use Rattle.oauth_header.specs.Header.{IsHeader, header_pairs}
use Rattle.oauth_header.specs.Written.{item_text, header_text}
use Rattle.oauth_header.proofs.BackLemmas.{good_pairs, IsHeader-written, header_pairs-written}
use Rattle.oauth_header.proofs.WrittenLemmas.{written_more}
use Rattle.oauth_header.proofs.writing.write.Goals as goal

pub loop-pair-preserved : goal.loop-pair-preserved
loop-pair-preserved c =
    let so_far = c.loop-pair.invariant in
    let pair : Pair = c.pair-item.result in
    let given : Pair = record { name = c.get.result.now; value = c.get-in-loop-pair.result.now } in
    let same : given ≡ pair = rw (c.get.ensures, c.get-in-loop-pair.ensures) refl in
    let text = c.in_ok-push_item.ensures.text
    ∙ ap (λ bytes. bytes ++ item_text given) c.in_ok-push_str.ensures.bytes
    ∙ ap (λ (p : Pair). (string_bytes c.loop-pair.text ++ c.loop-pair.separator.now) ++ item_text p) same in
    let more = written_more c.as_slice-pair-items.result.now c.loop-pair.pair-index pair (string_bytes c.loop-pair.text) c.loop-pair.separator.now (string_bytes c.push_item.new.text)
    (omega arith) c.pair-item.is so_far.1 so_far.2 so_far.3 (subst AreText same c.push_item.ensures.texts) text in
    (search rules, more.0, more.1, more.2)

pub returns-clause-header : goal.returns-clause-header
returns-clause-header c =
    let so_far = c.loop-pair.invariant in
    let whole : take c.loop-pair.pair-index c.as_slice-pair-items.result.now ≡ c.args.pairs.now = take_all _ _ c.loop-pair-test.false ∙ c.as_slice-pair-items.ensures in
    let good = good_pairs c.args.pairs.now (subst (λ (ps : List Pair). AllByRecursion AreText ps) whole so_far.3) c.requires in
    subst IsHeader (sym (c.from_string.ensures ∙ so_far.1 ∙ ap header_text whole)) (IsHeader-written c.args.pairs.now good)

pub returns-clause-back : goal.returns-clause-back
returns-clause-back c =
    let so_far = c.loop-pair.invariant in
    let whole : take c.loop-pair.pair-index c.as_slice-pair-items.result.now ≡ c.args.pairs.now = take_all _ _ c.loop-pair-test.false ∙ c.as_slice-pair-items.ensures in
    let good = good_pairs c.args.pairs.now (subst (λ (ps : List Pair). AllByRecursion AreText ps) whole so_far.3) c.requires in
    ap header_pairs (c.from_string.ensures ∙ so_far.1 ∙ ap header_text whole) ∙ header_pairs-written c.args.pairs.now good
