-- The keys of the settings, one after another.
use Rattle.std.proofs.Common.{◌≡◌, List, [], ◌∷◌, ◌++◌, refl, sym, ap, ◌∙◌, append_assoc, append-nil, Option, Some, None}
use Rattle.std.specs.Option.{option_map, option_and_then}
use Rattle.serde_json.specs.Data.{Data}
use Rattle.serde_json.specs.View.{items_of}
use Rattle.lti_outside.specs.declared.pairs.Pair.{Pair}
use Rattle.lti_settings.specs.Settings.{pair_in, pairs_in}

-- the pairs of a list of values
abbrev pub pairs_of : List Data → Option (List Pair)
pairs_of values = pairs_in (items_of values)

behind : (made : List Pair) (pair : Pair) (rest : Option (List Pair))
    → option_map (λ ps. made ++ ps) (option_map (λ ps. pair ∷ ps) rest) ≡ option_map (λ ps. (made ++ pair ∷ []) ++ ps) rest
behind made pair None = refl
behind made pair (Some ps) = ap Some (sym (append_assoc made (pair ∷ []) ps))

first : (values : List Data) (value : Data) → pairs_of (value ∷ values) ≡ option_and_then (λ pair. option_map (λ pairs. pair ∷ pairs) (pairs_of values)) (pair_in value)
unfolding pairs_in
first values value = refl

-- one value that is a pair
pub pairs-more : (made : List Pair) (value : Data) (values : List Data) (pair : Pair) → pair_in value ≡ Some pair
    → option_map (λ ps. made ++ ps) (pairs_of (value ∷ values)) ≡ option_map (λ ps. (made ++ pair ∷ []) ++ ps) (pairs_of values)
pairs-more made value values pair is =
    ap (option_map (λ ps. made ++ ps)) (first values value ∙ ap (option_and_then (λ p. option_map (λ pairs. p ∷ pairs) (pairs_of values))) is)
    ∙ behind made pair (pairs_of values)

-- one that is none
pub pairs-none : (made : List Pair) (value : Data) (values : List Data) → pair_in value ≡ None
    → option_map (λ ps. made ++ ps) (pairs_of (value ∷ values)) ≡ None
pairs-none made value values is =
    ap (option_map (λ ps. made ++ ps)) (first values value ∙ ap (option_and_then (λ p. option_map (λ pairs. p ∷ pairs) (pairs_of values))) is)

pub pairs-end : (made : List Pair) → option_map (λ ps. made ++ ps) (pairs_of []) ≡ Some made
unfolding pairs_in
pairs-end made = ap Some (append-nil made)

pub pairs-start : (values : Option (List Pair)) → values ≡ option_map (λ ps. [] ++ ps) values
pairs-start None = refl
pairs-start (Some ps) = refl
