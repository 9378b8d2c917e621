-- Steps through bytes in pieces.
use Rattle.std.proofs.Common.{◌≡◌, ℕ, ◌+◌, ◌<◌, ◌≤◌, List, [], ◌∷◌, ◌++◌, length, get_or, take, drop, refl, sym, ap, append-nil, ◌∙◌, ⊎_elim, append_assoc, arith}
use Rattle.std.proofs.lemmas.Bool.{cases_lt}
use Rattle.std.proofs.lemmas.Grind.{flat_map-append}
use Rattle.std.proofs.lemmas.List.{get_or-map, drop_more, take_more, take_all, get_or_past, drop-drop, take-append-drop}
use Rattle.std.proofs.Math.ListN.{drop_of_length-le}
use Rattle.std.proofs.Math.Seq.{take-add}
use Rattle.lti_outside.specs.Held.{Held}
use Rattle.lti_outside.specs.Pieces.{lists, joined, piece_at, before, from}

joined_drop : (ps : List (List ℕ)) (i : ℕ) → joined (drop i ps) ≡ piece_at ps i ++ joined (drop (i + 1) ps)
joined_drop ps i =
    ⊎_elim
    (λ within. rw (drop_more ps i [] within) refl)
    (λ past. rw (drop_of_length-le ps past, get_or_past ps i [] past, drop_of_length-le ps {i = i + 1} (omega (arith, past))) refl)
    (cases_lt i (length ps))

-- at the end of a piece the next one begins
pub from_next : (ps : List (List ℕ)) (place at : ℕ) → length (piece_at ps place) ≤ at → from ps (place + 1) 0 ≡ from ps place at
from_next ps place at end =
    sym (joined_drop ps (place + 1)) ∙ ap (λ xs. xs ++ joined (drop (place + 1) ps)) (sym (drop_of_length-le (piece_at ps place) end))

pub before_next : (ps : List (List ℕ)) (place at : ℕ) → place < length ps → length (piece_at ps place) ≤ at → before ps (place + 1) 0 ≡ before ps place at
before_next ps place at within end =
    let piece = piece_at ps place in
    append-nil (joined (take (place + 1) ps)) ∙ ap joined (take_more ps place [] within)
    ∙ flat_map-append (λ (p : List ℕ). p) (take place ps) (piece ∷ [])
    ∙ ap (λ xs. joined (take place ps) ++ xs) (append-nil piece ∙ sym (take_all at piece end))

-- past the last piece nothing is left
pub from_end : (ps : List (List ℕ)) (place at : ℕ) → length ps ≤ place → from ps place at ≡ []
from_end ps place at past =
    rw (get_or_past ps place [] past, drop_of_length-le ps {i = place + 1} (omega (arith, past)), drop_of_length-le {A = ℕ} [] {i = at} (omega arith)) refl

-- a step within a piece
pub from_step : (ps : List (List ℕ)) (place at n : ℕ) → from ps place at ≡ take n (drop at (piece_at ps place)) ++ from ps place (at + n)
from_step ps place at n =
    let piece = piece_at ps place in
    ap (λ xs. xs ++ joined (drop (place + 1) ps)) (sym (take-append-drop n (drop at piece)) ∙ ap (λ xs. take n (drop at piece) ++ xs) (drop-drop n at piece))
    ∙ append_assoc (take n (drop at piece)) (drop (at + n) piece) (joined (drop (place + 1) ps))

pub before_step : (ps : List (List ℕ)) (place at n : ℕ) → before ps place (at + n) ≡ before ps place at ++ take n (drop at (piece_at ps place))
before_step ps place at n =
    let piece = piece_at ps place in
    ap (λ xs. joined (take place ps) ++ xs) (take-add at n piece)
    ∙ sym (append_assoc (joined (take place ps)) (take at piece) (take n (drop at piece)))

-- a piece as the source sees it
pub piece_at-lists : (pieces : List Held) (place : ℕ) (piece : Held) (bytes : List ℕ) → place < length pieces → piece ≡ get_or pieces place piece → bytes ≡ piece.list → bytes ≡ piece_at (lists pieces) place
piece_at-lists pieces place piece bytes within is same =
    same ∙ ap (λ (h : Held). h.list) is ∙ sym (get_or-map (λ (h : Held). h.list) pieces place piece [] within)
