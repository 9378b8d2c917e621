-- Reading what was printed.
use Rattle.std.proofs.Common.{◌≡◌, ℕ, ◌==◌, Bool, true, false, cond, List, [], ◌∷◌, ◌++◌, map, reverse, Option, None, Some, refl, sym, ap, ◌∙◌, subst}
use Rattle.std.specs.List.{AllByRecursion, flat_map}
use Rattle.std.proofs.lemmas.Bool.{cond-true, cond_both}
use Rattle.std.proofs.lemmas.List.{reverse-append, append-nil}
use Rattle.lti_roles.specs.declared.names.RoleName.{RoleName}
use Rattle.lti_roles.specs.declared.role.Role.{Role}
use Rattle.lti_roles.specs.Names.{Named}
use Rattle.lti_roles.specs.Elements.{trim_front, trimmed, is_nonempty, elements_in, elements_of}
use Rattle.lti_roles.specs.Roles.{named, name_part, sub_part, has_empty_sub, role_named, role_behind, split_prefix, role_of, spelled_of, printed_of}
use Rattle.lti_roles.specs.Laws.{PrintedIsRead}
use Rattle.lti_roles.proofs.ElementLemmas.{HasNoComma, is_comma, pieces, pieces_whole, pieces_first, pieces_none}
use Rattle.lti_roles.proofs.TrimLemmas.{trimmed_twice}
use Rattle.lti_roles.proofs.PrintedLemmas.{next}

-- ---- a role is spelled as its element

spelled_named : (name : Option RoleName) (sub spelled : List ℕ) → spelled_of (role_named name sub spelled) ≡ spelled
spelled_named None sub spelled = refl
spelled_named (Some name) sub spelled = refl

spelled_behind : (names : List Named) (rest spelled : List ℕ) → spelled_of (role_behind names rest spelled) ≡ spelled
spelled_behind names rest spelled = step (has_empty_sub rest)
  where
    step : (t : Bool) → spelled_of (cond t (Role.Other spelled) (role_named (named names (name_part rest)) (sub_part rest) spelled)) ≡ spelled
    step true = refl
    step false = spelled_named (named names (name_part rest)) (sub_part rest) spelled

spelled_role : (element : List ℕ) → spelled_of (role_of element) ≡ element
spelled_role element = spelled_behind (split_prefix element).0 (split_prefix element).1 element

-- ---- what an element is

record IsElement (element : List ℕ) : Type 0 where
  whole : HasNoComma element
  trim : trimmed element ≡ element
  nonempty : is_nonempty element ≡ true

front_none : (text : List ℕ) → HasNoComma text → HasNoComma (trim_front text)
front_none [] none = tt
front_none (b ∷ text) none = cond_both (b == 32) (trim_front text) (b ∷ text) HasNoComma (λ _. front_none text none.1) (λ _. none)

none_push : (text : List ℕ) (b : ℕ) → HasNoComma text → is_comma b ≡ false → HasNoComma (text ++ b ∷ [])
none_push [] b none other = (other, tt)
none_push (a ∷ text) b none other = (none.0, none_push text b none.1 other)

reverse_none : (text : List ℕ) → HasNoComma text → HasNoComma (reverse text)
reverse_none [] none = tt
reverse_none (b ∷ text) none = subst HasNoComma (sym (reverse-append (b ∷ []) text)) (none_push (reverse text) b (reverse_none text none.1) none.0)

trimmed_none : (text : List ℕ) → HasNoComma text → HasNoComma (trimmed text)
trimmed_none text none = reverse_none (trim_front (reverse (trim_front text))) (front_none (reverse (trim_front text)) (reverse_none (trim_front text) (front_none text none)))

are_elements : (ps : List (List ℕ)) → AllByRecursion HasNoComma ps → AllByRecursion IsElement (elements_in ps)
are_elements [] none = tt
are_elements (piece ∷ ps) none =
    cond_both (is_nonempty (trimmed piece)) (trimmed piece ∷ elements_in ps) (elements_in ps) (AllByRecursion IsElement)
    (λ some. (record { whole = trimmed_none piece none.0; trim = trimmed_twice piece; nonempty = some }, are_elements ps none.1))
    (λ _. are_elements ps none.1)

-- ---- elements that are joined are cut again

joined : (element : List ℕ) (elements : List (List ℕ)) → AllByRecursion IsElement (element ∷ elements) → pieces (element ++ flat_map next (map role_of elements)) ≡ element ∷ elements
joined element [] good = ap pieces (append-nil element) ∙ pieces_whole element good.0.whole
joined element (second ∷ elements) good =
    ap (λ text. pieces (element ++ 44 ∷ (text ++ flat_map next (map role_of elements)))) (spelled_role second)
    ∙ pieces_first element (second ++ flat_map next (map role_of elements)) good.0.whole
    ∙ ap (λ ps. element ∷ ps) (joined second elements good.1)

same_elements : (elements : List (List ℕ)) → AllByRecursion IsElement elements → elements_in elements ≡ elements
same_elements [] good = refl
same_elements (element ∷ elements) good =
    ap (λ e. cond (is_nonempty e) (e ∷ elements_in elements) (elements_in elements)) good.0.trim
    ∙ cond-true (is_nonempty element) (element ∷ elements_in elements) (elements_in elements) good.0.nonempty
    ∙ ap (λ es. element ∷ es) (same_elements elements good.1)

elements_back : (elements : List (List ℕ)) → AllByRecursion IsElement elements → elements_of (printed_of (map role_of elements)) ≡ elements
elements_back [] good = refl
elements_back (element ∷ elements) good =
    ap (λ text. elements_of (text ++ flat_map next (map role_of elements))) (spelled_role element)
    ∙ ap elements_in (joined element elements good)
    ∙ same_elements (element ∷ elements) good

pub printed_is_read : PrintedIsRead
printed_is_read text = ap (map role_of) (elements_back (elements_of text) (are_elements (pieces text) (pieces_none text)))
