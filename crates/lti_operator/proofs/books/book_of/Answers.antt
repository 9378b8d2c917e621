use Rattle.std.proofs.Common.{◌≡◌, ◌∷◌, [], ◌++◌, Some, take, slice_get, rules, sym, subst, ap, ◌∙◌, List, ◌+◌}
use Rattle.lti_machine.specs.declared.entry.Entry.{Entry}
use Rattle.gradebook.specs.Book.{Holds}
use Rattle.lti_operator.proofs.ReportLemmas.{take-next, Holds-same}
use Rattle.lti_operator.proofs.books.book_of.Goals as goal

pub loop-place-preserved : goal.loop-place-preserved
loop-place-preserved c =
    let is : slice_get c.args.solo.now c.loop-place.place ≡ Some c.in-Some.entry.now = search rules in
    let more : take (c.loop-place.place + 1) c.args.solo.now ≡ take c.loop-place.place c.args.solo.now ++ c.in-Some.entry.now ∷ [] = take-next c.args.solo.now c.loop-place.place c.in-Some.entry.now is in
    let held = Holds-same c.loop-place.book c.prepare.new.self (take c.loop-place.place c.args.solo.now) c.in_ok-prepare.ensures.contents c.loop-place.invariant.holds in
    let added = c.apply.ensures (take c.loop-place.place c.args.solo.now) held in
    record {
      holds = subst (λ (es : List Entry). Holds c.apply.new.self es) (ap (λ (e : Entry). take c.loop-place.place c.args.solo.now ++ e ∷ []) c.in_ok-copy.ensures ∙ sym more) added;
      all = c.loop-place.invariant.all;
    }
