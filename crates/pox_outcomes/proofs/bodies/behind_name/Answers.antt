use Rattle.std.proofs.Common.{refl, codes}
use Rattle.pox_outcomes.specs.Body.{IsInside}
use Rattle.pox_outcomes.specs.Elements.{tag_starts}
use Rattle.pox_outcomes.proofs.CarriedLemmas.{carried, halts_on, reads_on, second_found}
use Rattle.pox_outcomes.proofs.TagLemmas.{tag_stops_start, tag_stops_inside, tag_reads_inside}
use Rattle.pox_outcomes.proofs.BodyLemmas.{inside_some}
use Rattle.pox_outcomes.proofs.bodies.behind_name.Goals as goal

pub returns-in_err-place-clause-stops : goal.returns-in_err-place-clause-stops
returns-in_err-place-clause-stops c = carried _ _ _ c.from_residual.ensures.1 (tag_stops_start (codes " > <") refl (IsInside c.args.name.now) (inside_some c.args.name.now) c.in_err-place.ensures.stops)

pub returns-clause-reads : goal.returns-clause-reads
returns-clause-reads c =
    let start = second_found (tag_starts (codes " > <")) _ c.in_ok-place.ensures.place c.if-place-eq0.false c.in_ok-place.ensures.reads in
    reads_on _ c.inside.ensures.reads (λ score last h. tag_reads_inside (codes " > <") refl (IsInside c.args.name.now) score start h)

pub returns-clause-stops : goal.returns-clause-stops
returns-clause-stops c =
    let start = second_found (tag_starts (codes " > <")) _ c.in_ok-place.ensures.place c.if-place-eq0.false c.in_ok-place.ensures.reads in
    halts_on _ c.inside.ensures.stops (λ n s. tag_stops_inside (codes " > <") refl (IsInside c.args.name.now) start s)
