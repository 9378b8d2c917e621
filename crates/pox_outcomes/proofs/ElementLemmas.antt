-- Tags and names of elements.
use Rattle.std.proofs.Common.{◌≡◌, ℕ, inl, inr, true, false, ◌==◌, List, [], ◌∷◌, ◌++◌, MatchBool, refl, sym, ap, ◌∙◌, subst, arith, codes}
use Rattle.std.specs.Char.{is_ascii_alphabetic}
use Rattle.std.specs.List.{list_all}
use Rattle.std.proofs.lemmas.Bool.{false≢true}
use Rattle.std.proofs.lemmas.Bool.Decides.{nat_tests}
use Rattle.lti_outside.proofs.BoolLemmas.{and_split}
use Rattle.pox_outcomes.specs.Language.{◌▸◌}
use Rattle.pox_outcomes.specs.Markup.{is_white, IsWhite, IsMarkup, is_plain}
use Rattle.pox_outcomes.specs.Characters.{begins}
use Rattle.pox_outcomes.specs.Elements.{is_element_byte, after_element_name, IsElementName, IsTag, IsEndTag}
use Rattle.pox_outcomes.proofs.SequenceLemmas.{Some, some_then, then_free}
use Rattle.pox_outcomes.proofs.RunLemmas.{IsOutside, BeginsOutside, front_of}
use Rattle.pox_outcomes.proofs.MarkupLemmas.{markup_one, free_markup}

-- ---- end tags

pub behind_slash : (name : List ℕ) → Some (IsMarkup name ▸ IsMarkup (codes " >"))
behind_slash name = some_then (markup_one name) (markup_one (codes " >"))

pub end_tag_one : (name : List ℕ) → Some (IsEndTag name)
end_tag_one name = some_then (markup_one (codes "/")) (behind_slash name)

pub end_tag_first : (name x : List ℕ) → IsEndTag name x → (t : List ℕ) × (x ≡ 47 ∷ t)
end_tag_first name x h =
    let slash : h.front ≡ 47 ∷ [] = h.first.are ∙ ap (λ t. t ++ h.first.back) h.first.first ∙ ap (λ t. 47 ∷ t) h.first.second in
    (h.back, h.are ∙ ap (λ t. t ++ h.back) slash)

pub end_tag_once : (name : List ℕ) → is_plain name ≡ true → (x y r s : List ℕ) → IsEndTag name x → IsEndTag name y → x ++ r ≡ y ++ s → x ≡ y
end_tag_once name plain = then_free (free_markup (codes "/") refl) (then_free (free_markup name plain) (free_markup (codes " >") refl))

-- ---- names

plain_byte : (b : ℕ) → is_element_byte b ≡ true → ((b == 32) ≡ false) × (is_white b ≡ false)
plain_byte b is = (grind (arith, nat_tests), grind (arith, nat_tests))

pub plain_name : (name : List ℕ) → list_all is_element_byte name ≡ true → is_plain name ≡ true
plain_name [] all = refl
plain_name (b ∷ name) all =
    let both = and_split (is_element_byte b) (list_all is_element_byte name) all in
    let here = plain_byte b both.0 in
    rw (here.1, here.0, plain_name name both.1) refl

pub letter_byte : (b : ℕ) → is_ascii_alphabetic b ≡ true → is_element_byte b ≡ true
letter_byte b is = grind (arith, nat_tests)

white_outside : (b : ℕ) → is_white b ≡ true → is_element_byte b ≡ false
white_outside b is = grind (arith, nat_tests)

behind_white : (white x rest : List ℕ) (c : ℕ) → IsWhite white → is_element_byte c ≡ false → x ≡ white ++ c ∷ rest → BeginsOutside is_element_byte x
behind_white [] x rest c is other e = (c, rest, e, other)
behind_white (b ∷ white) x rest c is other e = (b, white ++ c ∷ rest, e, white_outside b (and_split (is_white b) (list_all is_white white) is).0)

start_outside : (m x : List ℕ) (c : ℕ) → (c == 32) ≡ false → is_element_byte c ≡ false → IsMarkup (32 ∷ c ∷ m) x → BeginsOutside is_element_byte x
start_outside m x c other outside h =
    let k = h.second in
    let byte : k.front ≡ c ∷ [] = subst (λ t. MatchBool t (IsWhite k.front) (k.front ≡ c ∷ [])) other k.first in
    behind_white h.front x k.back c h.first outside (h.are ∙ ap (λ t. h.front ++ t) (k.are ∙ ap (λ t. t ++ k.back) byte))

then_outside : (a b : List ℕ) → BeginsOutside is_element_byte a → BeginsOutside is_element_byte (a ++ b)
then_outside a b o = (o.0, o.1 ++ b, ap (λ t. t ++ b) o.2, o.3)

-- no byte of a name stands behind it
pub tag_outside : (Inside : List ℕ → List ℕ → Type 0) (t x : List ℕ) → IsTag (codes " > <") Inside t x → BeginsOutside is_element_byte x
tag_outside Inside t x (inl h) = start_outside (codes ">") x 47 refl refl h.1
tag_outside Inside t x (inr h) = subst (BeginsOutside is_element_byte) (sym h.are) (then_outside h.front h.back (start_outside (codes " <") h.front 62 refl refl h.first))

-- the name in front
pub record Named (bytes : List ℕ) : Type 0 where
  pub name : List ℕ
  pub are : bytes ≡ name ++ after_element_name bytes
  pub is : IsElementName name
  pub outside : IsOutside is_element_byte (after_element_name bytes)

named_cons : (b : ℕ) (bytes : List ℕ) → is_ascii_alphabetic b ≡ true → Named (b ∷ bytes)
named_cons b bytes start =
    let w = front_of is_element_byte after_element_name refl (λ b t. refl) bytes in
    let same : after_element_name (b ∷ bytes) ≡ after_element_name bytes = rw (letter_byte b start) refl in
    record {
      name = b ∷ w.run;
      are = ap (λ t. b ∷ t) w.are ∙ ap (λ t. b ∷ (w.run ++ t)) (sym same);
      is = record { start = start; bytes = rw (letter_byte b start, w.is) refl };
      outside = subst (IsOutside is_element_byte) (sym same) w.outside;
    }

pub named_of : (bytes : List ℕ) → begins is_ascii_alphabetic bytes ≡ true → Named bytes
named_of [] start = absurd (false≢true start)
named_of (b ∷ bytes) start = named_cons b bytes start
