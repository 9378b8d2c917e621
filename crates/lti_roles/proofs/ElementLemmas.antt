-- Texts cut at commas, and the elements of their pieces.
use Rattle.std.proofs.Common.{◌≡◌, ℕ, ◌==◌, Bool, true, false, cond, List, [], ◌∷◌, ◌++◌, length, map, Option, None, Some, MatchOption, Bor, refl, sym, ap, ◌∙◌, append_assoc, lit<}
use Rattle.std.specs.List.{AllByRecursion, slice_split, onto_first, after_first, position_or_len}
use Rattle.std.proofs.lemmas.Bool.{cond-false, cond_both}
use Rattle.std.proofs.lemmas.List.{map-append}
use Rattle.std.proofs.lemmas.List.Splits.{slice_split_first, slice_split_none}
use Rattle.std.proofs.lemmas.List.Sums.{fails_before_first}
use Rattle.std.proofs.lemmas.Str.Pattern.{IsSplitOnceResult, split_once_first}
use Rattle.lti_roles.specs.declared.role.Role.{Role}
use Rattle.lti_roles.specs.Elements.{trimmed, is_nonempty, elements_in}
use Rattle.lti_roles.specs.Roles.{role_of, roles_of}

abbrev pub is_comma : ℕ → Bool
is_comma b = b == 44

abbrev pub pieces : List ℕ → List (List ℕ)
pieces text = slice_split (λ b. b == 44) text

-- no byte is a comma
abbrev pub HasNoComma : List ℕ → Type 0
HasNoComma text = AllByRecursion (λ b. is_comma b ≡ false) text

-- ---- where a text is cut

-- a text without a comma is one piece
pub pieces_whole : (text : List ℕ) → HasNoComma text → pieces text ≡ text ∷ []
pieces_whole [] none = refl
pieces_whole (b ∷ text) none =
    cond-false (is_comma b) ([] ∷ pieces text) (onto_first b (pieces text)) none.0 ∙ ap (onto_first b) (pieces_whole text none.1)

-- and before a comma it is the first
pub pieces_first : (text rest : List ℕ) → HasNoComma text → pieces (text ++ 44 ∷ rest) ≡ text ∷ pieces rest
pieces_first [] rest none = refl
pieces_first (b ∷ text) rest none =
    cond-false (is_comma b) ([] ∷ pieces (text ++ 44 ∷ rest)) (onto_first b (pieces (text ++ 44 ∷ rest))) none.0 ∙ ap (onto_first b) (pieces_first text rest none.1)

onto_none : (b : ℕ) (ps : List (List ℕ)) → is_comma b ≡ false → AllByRecursion HasNoComma ps → AllByRecursion HasNoComma (onto_first b ps)
onto_none b [] other none = ((other, tt), tt)
onto_none b (p ∷ ps) other none = ((other, none.0), none.1)

-- no piece has a comma
pub pieces_none : (text : List ℕ) → AllByRecursion HasNoComma (pieces text)
pieces_none [] = (tt, tt)
pieces_none (b ∷ text) =
    cond_both (is_comma b) ([] ∷ pieces text) (onto_first b (pieces text)) (AllByRecursion HasNoComma)
    (λ _. (tt, pieces_none text))
    (λ other. onto_none b (pieces text) other (pieces_none text))

-- ---- the elements of pieces

kept : (t : Bool) (element : List ℕ) (elements : List (List ℕ)) → cond t (element ∷ elements) elements ≡ cond t (element ∷ []) [] ++ elements
kept true element elements = refl
kept false element elements = refl

pub elements_more : (piece : List ℕ) (ps : List (List ℕ)) → elements_in (piece ∷ ps) ≡ elements_in (piece ∷ []) ++ elements_in ps
elements_more piece ps = kept (is_nonempty (trimmed piece)) (trimmed piece) (elements_in ps)

-- the roles of a text whose first comma stands behind `piece`
pub roles_more : (text piece rest : List ℕ) → pieces text ≡ piece ∷ pieces rest → roles_of text ≡ map role_of (elements_in (piece ∷ [])) ++ roles_of rest
roles_more text piece rest cut =
    ap (λ ps. map role_of (elements_in ps)) cut ∙ ap (map role_of) (elements_more piece (pieces rest))
    ∙ map-append role_of (elements_in (piece ∷ [])) (elements_in (pieces rest))

-- where `split_once` cuts a text, and that it cuts no other
abbrev pub IsCut : List ℕ → Option (Bor (List ℕ) × Bor (List ℕ)) → Type 0
IsCut text r = MatchOption r (pieces text ≡ text ∷ []) (λ x. pieces text ≡ x.0.now ∷ pieces x.1.now)

pub cut_is : (text : List ℕ) (r : Option (Bor (List ℕ) × Bor (List ℕ))) → IsSplitOnceResult 44 text r → IsCut text r
cut_is text None result =
    let none : position_or_len (λ b. b == 44) text ≡ length text = split_once_first 44 text None result (lit< tt) in
    slice_split_none (λ b. b == 44) text (λ k d lt. fails_before_first (λ b. b == 44) text k d (rw none lt))
cut_is text (Some parts) result =
    let (inside, front, back) = split_once_first 44 text (Some parts) result (lit< tt) in
    slice_split_first (λ b. b == 44) text 0 inside
    ∙ ap (λ piece. piece ∷ pieces (after_first (λ b. b == 44) text)) (sym front)
    ∙ ap (λ rest. parts.0.now ∷ pieces rest) (sym back)

-- the step of a loop that reads the pieces
pub roles_step : (so_far whole : List Role) (text piece rest : List ℕ) → pieces text ≡ piece ∷ pieces rest → so_far ++ roles_of text ≡ whole
    → (so_far ++ map role_of (elements_in (piece ∷ []))) ++ roles_of rest ≡ whole
roles_step so_far whole text piece rest cut is =
    append_assoc so_far (map role_of (elements_in (piece ∷ []))) (roles_of rest)
    ∙ ap (λ l. so_far ++ l) (sym (roles_more text piece rest cut)) ∙ is

-- and its end
pub roles_last : (so_far whole : List Role) (text : List ℕ) → pieces text ≡ text ∷ [] → so_far ++ roles_of text ≡ whole
    → so_far ++ map role_of (elements_in (text ∷ [])) ≡ whole
roles_last so_far whole text cut is = ap (λ ps. so_far ++ map role_of (elements_in ps)) (sym cut) ∙ is
