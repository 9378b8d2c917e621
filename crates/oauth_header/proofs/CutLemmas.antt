-- The header's value of some pairs is cut where its items were joined.
use Rattle.std.proofs.Common.{◌≡◌, ℕ, ◌+◌, Bool, true, false, cond, not, ◌==◌, List, [], ◌∷◌, ◌++◌, length, map, filter, codes, refl, sym, ap, ◌∙◌, arith, append_assoc}
use Rattle.std.specs.List.{AllByRecursion, list_all, flat_map}
use Rattle.std.proofs.lemmas.Bool.Decides.{nat_tests}
use Rattle.lti_outside.specs.declared.pairs.Pair.{Pair}
use Rattle.oauth_text.specs.Escape.{escape}
use Rattle.lti_outside.proofs.BoolLemmas.{and_split}
use Rattle.oauth_header.specs.Item.{is_name_byte}
use Rattle.oauth_text.specs.Blanks.{trim_front, trim_end}
use Rattle.oauth_header.specs.Items.{Placed, lengthen, pieces, placed, trimmed, is_nonempty, items_in}
use Rattle.oauth_header.specs.Written.{item_text}

-- neither a comma nor a quotation mark is a byte of a name
no_comma : (b : ℕ) → is_name_byte b ≡ true → (b == 44) ≡ false
no_comma b name = grind (arith, nat_tests)

no_mark : (b : ℕ) → is_name_byte b ≡ true → (b == 34) ≡ false
no_mark b name = grind (arith, nat_tests)

-- bytes of a name stay in the piece
pieces_name : (odd : Bool) (name text piece : List ℕ) (others : List (List ℕ)) → list_all is_name_byte name ≡ true → pieces odd text ≡ piece ∷ others
    → pieces odd (name ++ text) ≡ (name ++ piece) ∷ others
unfolding pieces
pieces_name odd [] text piece others bytes rest = rest
pieces_name odd (b ∷ name) text piece others bytes rest =
    let both = and_split (is_name_byte b) (list_all is_name_byte name) bytes in
    rw (no_comma b both.0, no_mark b both.0, pieces_name odd name text piece others both.1 rest) refl

-- an item whose name and value are of such bytes is a piece, where what follows its last quotation mark is cut off
pieces_item : (name value text : List ℕ) (others : List (List ℕ)) → list_all is_name_byte name ≡ true → list_all is_name_byte value ≡ true → pieces false text ≡ [] ∷ others
    → pieces false (32 ∷ (name ++ 61 ∷ 34 ∷ (value ++ 34 ∷ text))) ≡ (32 ∷ (name ++ 61 ∷ 34 ∷ (value ++ 34 ∷ []))) ∷ others
unfolding pieces
pieces_item name value text others name_bytes value_bytes rest =
    let closed : pieces true (34 ∷ text) ≡ (34 ∷ []) ∷ others = ap (lengthen 34) rest in
    let inside : pieces true (value ++ 34 ∷ text) ≡ (value ++ 34 ∷ []) ∷ others = pieces_name true value (34 ∷ text) (34 ∷ []) others value_bytes closed in
    let opened : pieces false (61 ∷ 34 ∷ (value ++ 34 ∷ text)) ≡ (61 ∷ 34 ∷ (value ++ 34 ∷ [])) ∷ others = ap (λ ps. lengthen 61 (lengthen 34 ps)) inside in
    ap (lengthen 32) (pieces_name false name (61 ∷ 34 ∷ (value ++ 34 ∷ text)) (61 ∷ 34 ∷ (value ++ 34 ∷ [])) others name_bytes opened)

-- both texts are of bytes of a name
pub record IsPlain (pair : Pair) : Type 0 where
  pub name : list_all is_name_byte (escape pair.name) ≡ true
  pub value : list_all is_name_byte (escape pair.value) ≡ true

abbrev pub next : Pair → List ℕ
next pair = codes ", " ++ item_text pair

abbrev pub spaced : Pair → List ℕ
spaced pair = 32 ∷ item_text pair

-- the item's text, grouped from the back
pub item_text-is : (pair : Pair) → item_text pair ≡ escape pair.name ++ 61 ∷ 34 ∷ (escape pair.value ++ 34 ∷ [])
item_text-is pair = simp append_assoc

regroup : (pair : Pair) (text : List ℕ) → item_text pair ++ text ≡ escape pair.name ++ 61 ∷ 34 ∷ (escape pair.value ++ 34 ∷ text)
regroup pair text = simp append_assoc

-- one item, and the pieces of what follows it
cut_item : (pair : Pair) (text : List ℕ) (others : List (List ℕ)) → IsPlain pair → pieces false text ≡ [] ∷ others
    → pieces false (32 ∷ (item_text pair ++ text)) ≡ spaced pair ∷ others
cut_item pair text others plain rest =
    ap (λ bytes. pieces false (32 ∷ bytes)) (regroup pair text)
    ∙ pieces_item (escape pair.name) (escape pair.value) text others plain.name plain.value rest
    ∙ ap (λ bytes. (32 ∷ bytes) ∷ others) (sym (item_text-is pair))

next_is : (pair : Pair) (text : List ℕ) → next pair ++ text ≡ 44 ∷ 32 ∷ (item_text pair ++ text)
next_is pair text = append_assoc (codes ", ") (item_text pair) text

cut_comma : (text : List ℕ) → pieces false (44 ∷ text) ≡ [] ∷ pieces false text
unfolding pieces
cut_comma text = refl

cut_end : pieces false [] ≡ [] ∷ []
unfolding pieces
cut_end = refl

-- what follows an item is cut off
cut_others : (pairs : List Pair) → AllByRecursion IsPlain pairs → pieces false (flat_map next pairs) ≡ [] ∷ map spaced pairs
cut_others [] plain = cut_end
cut_others (pair ∷ pairs) plain =
    ap (pieces false) (next_is pair (flat_map next pairs))
    ∙ cut_comma (32 ∷ (item_text pair ++ flat_map next pairs))
    ∙ ap (λ ps. [] ∷ ps) (cut_item pair (flat_map next pairs) (map spaced pairs) plain.0 (cut_others pairs plain.1))

-- the items that were joined are the pieces
pub pieces_written : (pair : Pair) (pairs : List Pair) → AllByRecursion IsPlain (pair ∷ pairs) → pieces false (32 ∷ (item_text pair ++ flat_map next pairs)) ≡ map spaced (pair ∷ pairs)
pieces_written pair pairs plain = cut_item pair (flat_map next pairs) (map spaced pairs) plain.0 (cut_others pairs plain.1)

-- ---- the items of pieces, without their places

abbrev pub is_some : List ℕ → Bool
is_some text = not (length text == 0)

abbrev pub trim : List ℕ → List ℕ
trim text = trim_end (trim_front text)

kept : (t : Bool) (item : Placed) (items : List Placed) → map (λ (i : Placed). i.bytes) (cond t (item ∷ items) items) ≡ cond t (item.bytes ∷ map (λ (i : Placed). i.bytes) items) (map (λ (i : Placed). i.bytes) items)
kept true item items = refl
kept false item items = refl

pub items_bytes : (at : ℕ) (ps : List (List ℕ)) → map (λ (i : Placed). i.bytes) (items_in (placed at ps)) ≡ filter is_some (map trim ps)
items_bytes at [] = refl
items_bytes at (piece ∷ ps) =
    let item = trimmed (record { at = at; bytes = piece }) in
    kept (is_nonempty item) item (items_in (placed (at + length piece + 1) ps))
    ∙ ap (λ rest. cond (is_some (trim piece)) (trim piece ∷ rest) rest) (items_bytes (at + length piece + 1) ps)
