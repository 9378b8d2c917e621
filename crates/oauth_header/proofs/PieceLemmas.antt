-- A text is cut at its first piece's end, and then what is left is cut.
use Rattle.std.proofs.Common.{◌≡◌, ℕ, suc, ◌+◌, ◌<◌, ◌≤◌, Bool, true, false, cond, not, ◌&&◌, ◌==◌, List, [], ◌∷◌, ◌++◌, length, take, drop, get_or, refl, sym, ap, ◌∙◌, arith, length-take, drop-cons, add-one}
use Rattle.std.proofs.lemmas.List.{drop-drop, drop_all}
use Rattle.oauth_header.specs.Items.{Placed, lengthen, pieces, placed, trimmed, is_nonempty, items_in, items_from}
use Rattle.oauth_header.specs.Pieces.{piece_len}

bound_of : (t : Bool) (n k : ℕ) → n ≤ k → cond t 0 (suc n) ≤ suc k
bound_of true n k h = omega arith
bound_of false n k h = omega arith

pub piece_len-le-length : (odd : Bool) (text : List ℕ) → piece_len odd text ≤ length text
unfolding piece_len
piece_len-le-length odd [] = omega arith
piece_len-le-length odd (b ∷ text) =
    bound_of (b == 44 && not odd) (piece_len (cond (b == 34) (not odd) odd) text) (length text) (piece_len-le-length (cond (b == 34) (not odd) odd) text)

-- a comma outside of quotation marks ends the piece
pub piece_len_here : (odd : Bool) (text : List ℕ) (i : ℕ) → i < length text → (get_or text i 0 == 44 && not odd) ≡ true → piece_len odd (drop i text) ≡ 0
unfolding piece_len
piece_len_here odd text i within ends = rw (drop-cons text i 0 within, ends) refl

-- any other byte is a byte of the piece
pub piece_len_next : (odd : Bool) (text : List ℕ) (i : ℕ) → i < length text → (get_or text i 0 == 44 && not odd) ≡ false
    → piece_len odd (drop i text) ≡ suc (piece_len (cond (get_or text i 0 == 34) (not odd) odd) (drop (i + 1) text))
unfolding piece_len
piece_len_next odd text i within other = rw (drop-cons text i 0 within, other, add-one i) refl

-- no byte is left at the end
pub piece_len_past : (odd : Bool) (text : List ℕ) (i : ℕ) → length text ≤ i → piece_len odd (drop i text) ≡ 0
unfolding piece_len
piece_len_past odd text i past = rw (drop_all i text past) refl

-- the pieces behind a cut
abbrev after : List ℕ → List (List ℕ)
after [] = []
after (comma ∷ text) = pieces false text

cut_here : (t q : Bool) (b : ℕ) (text : List ℕ) → pieces q text ≡ take (piece_len q text) text ∷ after (drop (piece_len q text) text)
    → cond t ([] ∷ pieces false text) (lengthen b (pieces q text)) ≡ take (cond t 0 (suc (piece_len q text))) (b ∷ text) ∷ after (drop (cond t 0 (suc (piece_len q text))) (b ∷ text))
cut_here true q b text rest = refl
cut_here false q b text rest = ap (lengthen b) rest

pieces_cut : (odd : Bool) (text : List ℕ) → pieces odd text ≡ take (piece_len odd text) text ∷ after (drop (piece_len odd text) text)
unfolding pieces piece_len
pieces_cut odd [] = refl
pieces_cut odd (b ∷ text) =
    cut_here (b == 44 && not odd) (cond (b == 34) (not odd) odd) b text (pieces_cut (cond (b == 34) (not odd) odd) text)

after_items : (at : ℕ) (text : List ℕ) → items_in (placed at (after text)) ≡ items_from at (drop 1 text)
unfolding pieces
after_items at [] = refl
after_items at (comma ∷ text) = refl

kept : {X : Type 0} (t : Bool) (x : X) (xs : List X) → cond t (x ∷ xs) xs ≡ cond t (x ∷ []) [] ++ xs
kept true x xs = refl
kept false x xs = refl

items_in-cons : (piece : Placed) (pieces : List Placed) → items_in (piece ∷ pieces) ≡ items_in (piece ∷ []) ++ items_in pieces
items_in-cons piece pieces = kept (is_nonempty (trimmed piece)) (trimmed piece) (items_in pieces)

-- the items are that of the first piece, and those behind it
pub items_from_cut : (value : List ℕ) (at : ℕ) (piece : List ℕ) → piece ≡ take (piece_len false (drop at value)) (drop at value)
    → items_from at (drop at value) ≡ items_in (record { at = at; bytes = piece } ∷ []) ++ items_from (at + (length piece + 1)) (drop (at + (length piece + 1)) value)
items_from_cut value at piece is =
    let text = drop at value in
    let len = piece_len false text in
    let within : len ≤ length text = piece_len-le-length false text in
    let long : length piece ≡ len = ap length is ∙ omega (arith, length-take len text) in
    let cut : pieces false text ≡ piece ∷ after (drop len text) = pieces_cut false text ∙ ap (λ p. p ∷ after (drop len text)) (sym is) in
    let here = items_in (record { at = at; bytes = piece } ∷ []) in
    let left : drop 1 (drop len text) ≡ drop (at + (length piece + 1)) value =
    drop-drop 1 len text ∙ drop-drop (len + 1) at value ∙ ap (λ n. drop (at + (n + 1)) value) (sym long) in
    let next : at + length piece + 1 ≡ at + (length piece + 1) = omega arith in
    ap (λ ps. items_in (placed at ps)) cut
    ∙ items_in-cons (record { at = at; bytes = piece }) (placed (at + length piece + 1) (after (drop len text)))
    ∙ ap (λ n. here ++ items_in (placed n (after (drop len text)))) next
    ∙ ap (λ items. here ++ items) (after_items (at + (length piece + 1)) (drop len text))
    ∙ ap (λ rest. here ++ items_from (at + (length piece + 1)) rest) left

-- nothing stands behind the end
pub items_from_past : (value : List ℕ) (at : ℕ) → length value ≤ at → items_from at (drop at value) ≡ []
unfolding pieces
items_from_past value at past = rw (drop_all at value past) refl
