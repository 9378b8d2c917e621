use Rattle.std.proofs.Common.{◌++◌, ℕ, List, sym, ap, ◌∙◌, subst, refl, codes}
use Rattle.pox_outcomes.specs.Language.{StopsAt, Reads}
use Rattle.pox_outcomes.specs.Attributes.{IsValue, is_xmlns}
use Rattle.pox_outcomes.proofs.CarriedLemmas.{carried}
use Rattle.pox_outcomes.proofs.LanguageLemmas.{reads_as, reads_then}
use Rattle.pox_outcomes.proofs.SequenceLemmas.{stops_first_part, stops_second_part}
use Rattle.pox_outcomes.proofs.MarkupLemmas.{free_markup}
use Rattle.pox_outcomes.proofs.Utf8Lemmas.{front_taken, rest_fits}
use Rattle.pox_outcomes.proofs.AttributeLemmas.{IsQuote, quote_is, attribute_fails, named_of, attribute_stops, quoted_one, quoted_stops, quoted_behind, attribute_reads}
use Rattle.pox_outcomes.proofs.attributes.after_attribute.Goals as goal

pub returns-then-not-begins_name-clause-stops : goal.returns-then-not-begins_name-clause-stops
returns-then-not-begins_name-clause-stops c = attribute_fails c.args.bytes.now (sym c.begins_name.ensures ∙ c.if-not-begins_name.true)

pub slice_bounds-is_xmlns-count : goal.slice_bounds-is_xmlns-count
slice_bounds-is_xmlns-count c =
    let named = named_of c.args.bytes.now (sym c.begins_name.ensures ∙ c.if-not-begins_name.false) in
    rest_fits _ named.name _ (named.are ∙ ap (λ (t : List ℕ). named.name ++ t) (sym c.after_name-behind.ensures))

pub returns-in_err-rest-clause-stops : goal.returns-in_err-rest-clause-stops
returns-in_err-rest-clause-stops c =
    let start = sym c.begins_name.ensures ∙ c.if-not-begins_name.false in
    carried _ _ _ c.from_residual.ensures.1 (attribute_stops start c.after_name-behind.ensures (stops_first_part (codes "''", quoted_one) c.in_err-rest.ensures.stops))

pub returns-in_err-place-clause-stops : goal.returns-in_err-place-clause-stops
returns-in_err-place-clause-stops c =
    let start = sym c.begins_name.ensures ∙ c.if-not-begins_name.false in
    carried _ _ _ c.from_residual-in_err-place.ensures.1
    (attribute_stops start c.after_name-behind.ensures (stops_second_part (free_markup (codes " =") refl) c.in_ok-rest.ensures.reads (quoted_stops _ _ c.in_err-place.ensures.stops)))

pub after_value-requires : goal.after_value-requires
after_value-requires c = subst IsQuote (sym c.quote_at.ensures) (quote_is c.in_ok-place.place c.in_ok-place.ensures.place)

pub returns-in_err-rest-2-clause-stops : goal.returns-in_err-rest-2-clause-stops
returns-in_err-rest-2-clause-stops c =
    let start = sym c.begins_name.ensures ∙ c.if-not-begins_name.false in
    let value = subst (λ (q : ℕ). StopsAt (IsValue q) c.in_ok-place.rest.now c.in_err-rest-2.field-0.0.left) c.quote_at.ensures c.in_err-rest-2.ensures.stops in
    carried _ _ _ c.from_residual-in_err-rest-2.ensures.1
    (attribute_stops start c.after_name-behind.ensures (stops_second_part (free_markup (codes " =") refl) c.in_ok-rest.ensures.reads (quoted_behind _ _ _ _ c.in_ok-place.ensures.place c.in_ok-place.ensures.reads value)))

pub returns-clause-reads : goal.returns-clause-reads
returns-clause-reads c =
    let named = named_of c.args.bytes.now (sym c.begins_name.ensures ∙ c.if-not-begins_name.false) in
    let are = named.are ∙ ap (λ (t : List ℕ). named.name ++ t) (sym c.after_name-behind.ensures) in
    let value = subst (λ (q : ℕ). Reads (IsValue q) c.in_ok-place.rest.now c.in_ok-rest-2.rest.now) c.quote_at.ensures c.in_ok-rest-2.ensures.reads in
    attribute_reads named _ are (c.is_xmlns-namespace.ensures ∙ ap is_xmlns (front_taken _ named.name _ are))
    (reads_then c.in_ok-rest.ensures.reads (reads_as (λ x h. (c.in_ok-place.place, c.in_ok-place.ensures.place, h)) (reads_then c.in_ok-place.ensures.reads value)))
