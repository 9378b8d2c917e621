-- The pairs of a form text that was written from pairs.
use Rattle.std.proofs.Common.{◌≡◌, ℕ, List, [], ◌∷◌, ◌++◌, map, All, refl, sym, ap, ◌∙◌, subst}
use Rattle.std.proofs.lemmas.Grind.{fold-append}
use Rattle.std.proofs.lemmas.List.{map-append}
use Rattle.std.proofs.lemmas.List.Elements.{All-nil, All-cons}
use Rattle.std.specs.List.{AllByRecursion}
use Rattle.form_urlencoded.specs.Form.{append_pair, extend_pairs, raw_pairs, decode}
use Rattle.form_urlencoded.proofs.FormLemmas.{round_trip, IsBytePair}
use Rattle.lti_outside.specs.declared.pairs.Pair.{Pair}
use Rattle.oauth_text.specs.Form.{Raw, decoded, AreTexts, AreText, IsForm, pairs_of}

-- a pair as a tuple
abbrev pub tuple_of : Pair → Raw
tuple_of p = (p.name, p.value)

abbrev pub pair_of : Raw → Pair
pair_of t = record { name = t.0; value = t.1 }

-- the form text of pairs
abbrev pub written : List Pair → List ℕ
written ps = extend_pairs [] (map tuple_of ps)

pub written-push : (ps : List Pair) (p : Pair) → written (ps ++ p ∷ []) ≡ append_pair (written ps) p.name p.value
written-push ps p = rw (map-append, fold-append) refl

pairs_of-parse : (raws : List Raw) → map decoded raws ≡ map pair_of (map (λ raw. (decode raw.0, decode raw.1)) raws)
pairs_of-parse [] = refl
pairs_of-parse (raw ∷ raws) = ap (λ ps. decoded raw ∷ ps) (pairs_of-parse raws)

back : (ps : List Pair) → map pair_of (map tuple_of ps) ≡ ps
back [] = refl
back (p ∷ ps) = ap (λ qs. p ∷ qs) (back ps)

byte_pairs : (ps : List Pair) → AllByRecursion AreText ps → All IsBytePair (map tuple_of ps)
byte_pairs [] texts = All-nil IsBytePair
byte_pairs (p ∷ ps) texts = All-cons IsBytePair (tuple_of p) (map tuple_of ps) (texts.0.name_bytes, texts.0.value_bytes) (byte_pairs ps texts.1)

pub pairs_of-written : (ps : List Pair) → AllByRecursion AreText ps → pairs_of (written ps) ≡ ps
pairs_of-written ps texts = pairs_of-parse (raw_pairs (written ps)) ∙ ap (map pair_of) (round_trip (map tuple_of ps) (byte_pairs ps texts)) ∙ back ps

texts_all : (raws : List Raw) → AllByRecursion AreText (map decoded raws) → AreTexts raws
texts_all [] texts = tt
texts_all (raw ∷ raws) texts = ((texts.0.name, texts.0.value), texts_all raws texts.1)

pub IsForm-written : (ps : List Pair) → AllByRecursion AreText ps → IsForm (written ps)
IsForm-written ps texts =
    texts_all (raw_pairs (written ps)) (subst (λ qs. AllByRecursion AreText qs) (sym (pairs_of-written ps texts)) texts)
