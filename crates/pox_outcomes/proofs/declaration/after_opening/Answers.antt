use Rattle.std.proofs.Common.{inl}
use Rattle.pox_outcomes.proofs.CarriedLemmas.{carried, first_other}
use Rattle.pox_outcomes.proofs.LanguageLemmas.{reads_as, reads_then}
use Rattle.pox_outcomes.proofs.ChoiceLemmas.{plain_at, words_plain}
use Rattle.pox_outcomes.proofs.DeclarationLemmas.{starts, opening_stops, opening_stops_declaration, opening_stops_root}
use Rattle.pox_outcomes.proofs.declaration.after_opening.Goals as goal

pub returns-in_err-place-clause-stops : goal.returns-in_err-place-clause-stops
returns-in_err-place-clause-stops c = carried _ _ _ c.from_residual.ensures.1 (opening_stops c.args.root.now c.requires c.in_err-place.ensures.stops)

pub one_of-requires-clause-plain : goal.one_of-requires-clause-plain
one_of-requires-clause-plain c = words_plain (starts c.args.root.now) c.requires

pub returns-in_err-last-clause-stops : goal.returns-in_err-last-clause-stops
returns-in_err-last-clause-stops c =
    let start = first_other (starts c.args.root.now) _ c.in_ok-place.ensures.place c.if-place-eq1.false c.in_ok-place.ensures.reads in
    carried _ _ _ c.from_residual-in_err-last.ensures.1 (opening_stops_declaration c.args.root.now c.requires start c.in_err-last.ensures.stops)

pub follow-requires : goal.follow-requires
follow-requires c = plain_at (starts c.args.root.now) 1 (words_plain (starts c.args.root.now) c.requires)

pub returns-in_err-behind-clause-stops : goal.returns-in_err-behind-clause-stops
returns-in_err-behind-clause-stops c =
    let start = first_other (starts c.args.root.now) _ c.in_ok-place.ensures.place c.if-place-eq1.false c.in_ok-place.ensures.reads in
    carried _ _ _ c.from_residual-in_err-behind.ensures.1 (opening_stops_root c.args.root.now c.requires start c.in_ok-last.ensures.reads c.in_err-behind.ensures.stops)

pub returns-clause-reads : goal.returns-clause-reads
returns-clause-reads c =
    let start = first_other (starts c.args.root.now) _ c.in_ok-place.ensures.place c.if-place-eq1.false c.in_ok-place.ensures.reads in
    reads_as (λ x h. inl h) (reads_then start (reads_then c.in_ok-last.ensures.reads c.in_ok-behind.ensures.reads))
