use Rattle.std.proofs.Common.{refl, codes}
use Rattle.pox_outcomes.specs.Markup.{IsMarkup}
use Rattle.pox_outcomes.specs.Texts.{IsText}
use Rattle.pox_outcomes.specs.Elements.{tag_starts}
use Rattle.pox_outcomes.proofs.CarriedLemmas.{carried, halts, second_found}
use Rattle.pox_outcomes.proofs.SequenceLemmas.{before_here, before_on}
use Rattle.pox_outcomes.proofs.MarkupLemmas.{markup_one}
use Rattle.pox_outcomes.proofs.TextLemmas.{text_once}
use Rattle.pox_outcomes.proofs.TagLemmas.{tag_stops_start, tag_stops_inside}
use Rattle.pox_outcomes.proofs.LeafLemmas.{Closed, closed_some, leaf_reads}
use Rattle.pox_outcomes.proofs.leaves.leaf.Goals as goal

pub returns-in_err-place-clause-stops : goal.returns-in_err-place-clause-stops
returns-in_err-place-clause-stops c =
    let closing = c.args.closing.now in
    carried _ _ _ c.from_residual.ensures.1 (tag_stops_start (codes " >") refl (Closed closing) (closed_some closing) c.in_err-place.ensures.stops)

pub returns-in_err-text-clause-stops : goal.returns-in_err-text-clause-stops
returns-in_err-text-clause-stops c =
    let closing = c.args.closing.now in
    let start = second_found (tag_starts (codes " >")) _ c.in_ok-place.ensures.place c.if-place-eq0.false c.in_ok-place.ensures.reads in
    carried _ _ _ c.from_residual-in_err-text.ensures.1
    (halts _ c.in_err-text.ensures.stops (λ n s. tag_stops_inside (codes " >") refl (Closed closing) start (before_here IsText (IsMarkup closing) (markup_one closing) s)))

pub returns-in_err-rest-clause-stops : goal.returns-in_err-rest-clause-stops
returns-in_err-rest-clause-stops c =
    let closing = c.args.closing.now in
    let start = second_found (tag_starts (codes " >")) _ c.in_ok-place.ensures.place c.if-place-eq0.false c.in_ok-place.ensures.reads in
    carried _ _ _ c.from_residual-in_err-rest.ensures.1
    (tag_stops_inside (codes " >") refl (Closed closing) start (before_on IsText (IsMarkup closing) text_once c.in_ok-text.text c.in_ok-text.ensures.reads c.in_err-rest.ensures.stops))

pub returns-clause-reads : goal.returns-clause-reads
returns-clause-reads c =
    let start = second_found (tag_starts (codes " >")) _ c.in_ok-place.ensures.place c.if-place-eq0.false c.in_ok-place.ensures.reads in
    leaf_reads c.args.closing.now c.in_ok-text.text start c.in_ok-text.ensures.reads c.in_ok-rest.ensures.reads
