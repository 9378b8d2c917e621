use Rattle.std.proofs.Common.{◌≡◌, take}
use Rattle.std.proofs.lemmas.List.{take_all}
use Rattle.oauth_text.proofs.FormTexts.{pairs_of-written, IsForm-written}
use Rattle.oauth_text.proofs.form_texts.form_text.Goals as goal

pub returns-clause-form : goal.returns-clause-form
returns-clause-form c =
    let whole : take c.loop-pair.pair-index c.as_slice-pair-items.result.now ≡ c.as_slice-pair-items.result.now = take_all _ _ c.loop-pair-test.false in
    rw (c.in_ok-push.ensures.ok, c.new-bytes.ensures, c.as_bytes.ensures.value, c.finish.ensures, c.loop-pair.invariant.0, whole)
    (IsForm-written _ (rw whole at c.loop-pair.invariant.1))

pub returns-clause-pairs : goal.returns-clause-pairs
returns-clause-pairs c =
    let whole : take c.loop-pair.pair-index c.as_slice-pair-items.result.now ≡ c.as_slice-pair-items.result.now = take_all _ _ c.loop-pair-test.false in
    rw (c.in_ok-push.ensures.ok, c.new-bytes.ensures, c.as_bytes.ensures.value, c.finish.ensures, c.loop-pair.invariant.0, whole, ← c.as_slice-pair-items.ensures)
    (pairs_of-written _ (rw whole at c.loop-pair.invariant.1))
