use Rattle.std.proofs.Common.{◌≡◌, ◌++◌, ◌-◌, ℕ, List, true, length, take, sym, ap, ◌∙◌, subst}
use Rattle.pox_outcomes.specs.Language.{Any, StopsAt, Reads}
use Rattle.pox_outcomes.specs.Markup.{is_plain}
use Rattle.pox_outcomes.specs.Elements.{after_element_name}
use Rattle.pox_outcomes.proofs.CarriedLemmas.{halts_on, reads_on}
use Rattle.pox_outcomes.proofs.Utf8Lemmas.{front_taken, rest_fits}
use Rattle.pox_outcomes.proofs.ElementLemmas.{Named, named_of, plain_name}
use Rattle.pox_outcomes.proofs.BodyLemmas.{Tagged, element_fails, element_stops, element_reads}
use Rattle.pox_outcomes.proofs.bodies.element.Goals as goal

-- the bytes in front of what stands behind the name
taken : {bytes behind : List ℕ} (named : Named bytes) → behind ≡ after_element_name bytes → take (length bytes - length behind) bytes ≡ named.name
taken named e = front_taken _ named.name _ (named.are ∙ ap (λ (t : List ℕ). named.name ++ t) (sym e))

pub returns-then-not-begins_element-clause-stops : goal.returns-then-not-begins_element-clause-stops
returns-then-not-begins_element-clause-stops c = element_fails c.args.bytes.now (sym c.begins_element.ensures ∙ c.if-not-begins_element.true)

pub slice_bounds-behind_name-count : goal.slice_bounds-behind_name-count
slice_bounds-behind_name-count c =
    let named = named_of c.args.bytes.now (sym c.begins_element.ensures ∙ c.if-not-begins_element.false) in
    rest_fits _ named.name _ (named.are ∙ ap (λ (t : List ℕ). named.name ++ t) (sym c.after_element_name-behind.ensures))

pub behind_name-requires : goal.behind_name-requires
behind_name-requires c =
    let named = named_of c.args.bytes.now (sym c.begins_element.ensures ∙ c.if-not-begins_element.false) in
    subst (λ (t : List ℕ). is_plain t ≡ true) (sym (taken named c.after_element_name-behind.ensures)) (plain_name named.name named.is.bytes)

pub returns-clause-reads : goal.returns-clause-reads
returns-clause-reads c =
    let named = named_of c.args.bytes.now (sym c.begins_element.ensures ∙ c.if-not-begins_element.false) in
    let e = c.after_element_name-behind.ensures in
    reads_on _ c.behind_name.ensures.reads (λ score last h. element_reads named score
    (subst (λ (t : List ℕ). Reads (Tagged named.name score) t last) e (subst (λ (t : List ℕ). Reads (Tagged t score) c.after_element_name-behind.result.now last) (taken named e) h)))

pub returns-clause-stops : goal.returns-clause-stops
returns-clause-stops c =
    let named = named_of c.args.bytes.now (sym c.begins_element.ensures ∙ c.if-not-begins_element.false) in
    let e = c.after_element_name-behind.ensures in
    halts_on _ c.behind_name.ensures.stops (λ n s. element_stops named
    (subst (λ (t : List ℕ). StopsAt (Any (Tagged named.name)) t n) e (subst (λ (t : List ℕ). StopsAt (Any (Tagged t)) c.after_element_name-behind.result.now n) (taken named e) s)))
