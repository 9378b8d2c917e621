use Rattle.std.proofs.Common.{ap, ◌∙◌, slice_index_or}
use Rattle.lti_launch.specs.Found.{is_unfit}
use Rattle.lti_launch.proofs.FoundLemmas.{unfit_found}
use Rattle.lti_launch.proofs.SortedLemmas.{found_place}
use Rattle.lti_launch.proofs.sorted.Sorted.is_wrong.Goals as goal

pub returns : goal.returns
returns c = λ pairs sorted.
    let field = c.args.field in
    let here = c.index.ensures ∙ (λ i. slice_index_or (sorted.found i) (c.place.ensures.place i) c.index.result.now) ∙ found_place pairs field c.index.result.now in
    c.is_wrong.ensures ∙ ap (is_unfit field) here ∙ unfit_found field pairs
