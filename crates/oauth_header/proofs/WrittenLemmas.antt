-- A header's value that was written from pairs.
use Rattle.std.proofs.Common.{◌≡◌, ℕ, ◌+◌, ◌<◌, length, take, get_or, subst, List, [], ◌∷◌, ◌++◌, codes, append-nil, append_assoc, refl, sym, ap, ◌∙◌}
use Rattle.std.proofs.lemmas.Grind.{flat_map-append}
use Rattle.std.specs.List.{AllByRecursion, flat_map}
use Rattle.std.proofs.lemmas.List.{take_more}
use Rattle.oauth_text.specs.Form.{AreText}
use Rattle.lti_outside.specs.declared.pairs.Pair.{Pair}
use Rattle.oauth_header.specs.Written.{item_text, header_text}

-- what stands before the next item
abbrev pub separator : List Pair → List ℕ
separator [] = codes " "
separator (pair ∷ pairs) = codes ", "

pub separator-push : (pairs : List Pair) (pair : Pair) → separator (pairs ++ pair ∷ []) ≡ codes ", "
separator-push [] pair = refl
separator-push (first ∷ pairs) pair = refl

abbrev next : Pair → List ℕ
next pair = codes ", " ++ item_text pair

regroup : (a b c d e : List ℕ) → a ++ (b ++ (c ++ ((d ++ e) ++ []))) ≡ ((a ++ (b ++ c)) ++ d) ++ e
regroup a b c d e = rw append-nil (simp append_assoc)

pub header_text-push : (pairs : List Pair) (pair : Pair) → header_text (pairs ++ pair ∷ []) ≡ (header_text pairs ++ separator pairs) ++ item_text pair
header_text-push [] pair = ap (λ text. codes "OAuth " ++ text) (append-nil (item_text pair))
header_text-push (first ∷ pairs) pair =
    ap (λ text. codes "OAuth " ++ (item_text first ++ text)) (flat_map-append next pairs (pair ∷ []))
    ∙ regroup (codes "OAuth ") (item_text first) (flat_map next pairs) (codes ", ") (item_text pair)

AreText-push : (pairs : List Pair) (pair : Pair) → AllByRecursion AreText pairs → AreText pair → AllByRecursion AreText (pairs ++ pair ∷ [])
AreText-push [] pair texts text = (text, tt)
AreText-push (first ∷ pairs) pair texts text = (texts.0, AreText-push pairs pair texts.1 text)

-- one more pair is written
pub written_more : (pairs : List Pair) (i : ℕ) (pair : Pair) (text before now : List ℕ) → i < length pairs → pair ≡ get_or pairs i pair
    → text ≡ header_text (take i pairs) → before ≡ separator (take i pairs) → AllByRecursion AreText (take i pairs) → AreText pair → now ≡ (text ++ before) ++ item_text pair
    → (now ≡ header_text (take (i + 1) pairs)) × (codes ", " ≡ separator (take (i + 1) pairs)) × AllByRecursion AreText (take (i + 1) pairs)
written_more pairs i pair text before now within is written separated texts new_text new =
    let more : take (i + 1) pairs ≡ take i pairs ++ pair ∷ [] = take_more pairs i pair within ∙ ap (λ (p : Pair). take i pairs ++ p ∷ []) (sym is) in (
      new ∙ ap (λ bytes. (bytes ++ before) ++ item_text pair) written ∙ ap (λ bytes. (header_text (take i pairs) ++ bytes) ++ item_text pair) separated
          ∙ sym (header_text-push (take i pairs) pair) ∙ ap header_text (sym more),
      sym (separator-push (take i pairs) pair) ∙ ap separator (sym more),
      subst (λ (ps : List Pair). AllByRecursion AreText ps) (sym more) (AreText-push (take i pairs) pair texts new_text),
    )
