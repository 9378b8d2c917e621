use Rattle.std.proofs.Common.{sym, ◌∙◌, arith}
use Rattle.std.proofs.lemmas.List.{get_or_default}
use Rattle.lti_launch.proofs.WrittenLemmas.{one_more}
use Rattle.lti_launch.proofs.writing.field_pairs.Goals as goal

pub loop-place-preserved : goal.loop-place-preserved
loop-place-preserved c =
    one_more c.all-fields.result.now c.args.found.now c.loop-place.place c.loop-place.pairs c.push_field.new.pairs _ c.index-found-place.result (c.all-fields.ensures.count ∙ sym c.requires) c.loop-place-test.true
    (get_or_default c.all-fields.result.now c.loop-place.place _ _ (omega (arith, c.all-fields.ensures.count, c.requires, c.loop-place-test.true))) (sym c.index-found-place.is) c.loop-place.invariant c.in_ok-push_field.ensures
