use Rattle.std.proofs.Common.{◌+◌, List, ◌∷◌, sym, ◌∙◌, ap, map, drop, ◌++◌, Option}
use Rattle.std.specs.Option.{option_map}
use Rattle.std.proofs.lemmas.List.{drop_more}
use Rattle.std.proofs.Math.ListN.{drop_of_length-le}
use Rattle.serde_json.specs.View.{view}
use Rattle.serde_json.specs.declared.value.Value.{Value}
use Rattle.lti_outside.specs.declared.pairs.Pair.{Pair}
use Rattle.lti_settings.proofs.SettingsLemmas.{pairs_of, pairs-more, pairs-none, pairs-end, pairs-start}
use Rattle.lti_settings.proofs.settings.pairs_of.Goals as goal

-- the pairs so far before those of these values
abbrev over : List Pair → List Value → Option (List Pair)
over made values = option_map (λ ps. made ++ ps) (pairs_of (map view values))

pub loop-value-init : goal.loop-value-init
loop-value-init c = rw c.new-pairs.ensures (pairs-start _)

pub loop-value-preserved : goal.loop-value-preserved
loop-value-preserved c =
    let left = ap (over c.loop-value.pairs)
    (drop_more c.args.values.now c.loop-value.value-index c.value-item.result c.loop-value-test.true
    ∙ ap (λ (v : Value). v ∷ drop (c.loop-value.value-index + 1) c.args.values.now) (sym c.value-item.is)) in
    c.loop-value.invariant ∙ left
    ∙ pairs-more c.loop-value.pairs (view c.value-item.result) (map view (drop (c.loop-value.value-index + 1) c.args.values.now)) c.in-Some.pair
    (sym c.in_ok-pair.ensures ∙ c.in-Some.is)
    ∙ ap (λ (made : List Pair). over made (drop (c.loop-value.value-index + 1) c.args.values.now)) (sym c.in_ok-push.ensures.ok)

pub returns-in_default-clause-bad : goal.returns-in_default-clause-bad
returns-in_default-clause-bad c = λ _.
    c.loop-value.invariant
    ∙ ap (over c.loop-value.pairs)
    (drop_more c.args.values.now c.loop-value.value-index c.value-item.result c.loop-value-test.true
    ∙ ap (λ (v : Value). v ∷ drop (c.loop-value.value-index + 1) c.args.values.now) (sym c.value-item.is))
    ∙ pairs-none c.loop-value.pairs (view c.value-item.result) (map view (drop (c.loop-value.value-index + 1) c.args.values.now))
    (sym c.in_ok-pair.ensures ∙ c.in_default.is)

pub returns-clause-ok : goal.returns-clause-ok
returns-clause-ok c =
    c.loop-value.invariant
    ∙ ap (over c.loop-value.pairs) (drop_of_length-le c.args.values.now c.loop-value-test.false)
    ∙ pairs-end c.loop-value.pairs
