-- What is written for a text spells it.
use Rattle.std.proofs.Common.{◌≡◌, ℕ, zero, suc, ◌<◌, ◌⊎◌, inl, inr, ⊎_elim, Bool, true, false, cond, ◌&&◌, ◌||◌, ◌==◌, nat_le, List, [], ◌∷◌, ◌++◌, length, append_assoc, refl, sym, ap, ◌∙◌, subst, arith, codes}
use Rattle.std.specs.List.{list_all}
use Rattle.std.proofs.lemmas.Bool.{false≢true, cases_Bool}
use Rattle.std.proofs.lemmas.Bool.Decides.{nat_tests}
use Rattle.lti_outside.proofs.BoolLemmas.{and_split}
use Rattle.pox_outcomes.specs.Language.{Then}
use Rattle.pox_outcomes.specs.Markup.{IsMarkup}
use Rattle.pox_outcomes.specs.Characters.{is_within, IsRow, row_at, rows, IsCharacter, begins}
use Rattle.pox_outcomes.specs.Texts.{is_literal, IsUnit, IsRest, ends, goes, IsUnits, IsText}
use Rattle.pox_outcomes.specs.Leaves.{IsLeaf}
use Rattle.pox_outcomes.specs.Written.{IsXmlText, none, one, escape_byte, escape_part, escape_text}
use Rattle.pox_outcomes.proofs.MarkupLemmas.{at_test}
use Rattle.pox_outcomes.proofs.WritingLemmas.{escape_part-nil, escape_part-cons}

-- ---- markup without white bytes

-- the markup without its spaces
abbrev pub bare : List ℕ → List ℕ
bare [] = []
bare (b ∷ m) = cond (b == 32) (bare m) (b ∷ bare m)

bare_at : (t : Bool) (b : ℕ) (m : List ℕ) → IsMarkup m (bare m) → Then (at_test t b) (IsMarkup m) (cond t (bare m) (b ∷ bare m))
bare_at true b m rest = record { front = []; back = bare m; are = refl; first = refl; second = rest }
bare_at false b m rest = record { front = b ∷ []; back = bare m; are = refl; first = refl; second = rest }

pub bare_markup : (m : List ℕ) → IsMarkup m (bare m)
bare_markup [] = refl
bare_markup (b ∷ m) = bare_at (b == 32) b m (bare_markup m)

-- ---- one byte

-- the character is a space inside of the text, or it is written as a unit
abbrev Step : Bool → List ℕ → List ℕ → Type 0
Step edge character unit = ((character ≡ 32 ∷ []) × (unit ≡ 32 ∷ []) × (edge ≡ false)) ⊎ IsUnit character unit

same_byte : (b c : ℕ) → (b == c) ≡ true → b ≡ c
same_byte b c e = grind (arith, nat_tests)

ampersand : (edge : Bool) → Step edge (38 ∷ []) (codes "&amp;")
unfolding lib.Utf8.encode
ampersand edge = inr (inr (38, refl, (2, omega arith, record { front = codes "&amp;"; back = []; are = refl; first = bare_markup (codes "&amp;"); second = (refl, refl) })))

less : (edge : Bool) → Step edge (60 ∷ []) (codes "&lt;")
unfolding lib.Utf8.encode
less edge = inr (inr (60, refl, (0, omega arith, record { front = codes "&lt;"; back = []; are = refl; first = bare_markup (codes "&lt;"); second = (refl, refl) })))

greater : (edge : Bool) → Step edge (62 ∷ []) (codes "&gt;")
unfolding lib.Utf8.encode
greater edge = inr (inr (62, refl, (1, omega arith, record { front = codes "&gt;"; back = []; are = refl; first = bare_markup (codes "&gt;"); second = (refl, refl) })))

tab : (edge : Bool) → Step edge (9 ∷ []) (codes "&#9;")
unfolding lib.Utf8.encode
tab edge = inr (inr (9, refl, (5, omega arith, record { front = codes "&#"; back = codes "9;"; are = refl; first = bare_markup (codes "&#"); second = inr (record { digits = codes "9"; are = refl; in_base = refl; spells = refl; allowed = refl }) })))

line_feed : (edge : Bool) → Step edge (10 ∷ []) (codes "&#10;")
unfolding lib.Utf8.encode
line_feed edge = inr (inr (10, refl, (5, omega arith, record { front = codes "&#"; back = codes "10;"; are = refl; first = bare_markup (codes "&#"); second = inr (record { digits = codes "10"; are = refl; in_base = refl; spells = refl; allowed = refl }) })))

carriage_return : (edge : Bool) → Step edge (13 ∷ []) (codes "&#13;")
unfolding lib.Utf8.encode
carriage_return edge = inr (inr (13, refl, (5, omega arith, record { front = codes "&#"; back = codes "13;"; are = refl; first = bare_markup (codes "&#"); second = inr (record { digits = codes "13"; are = refl; in_base = refl; spells = refl; allowed = refl }) })))

space : (edge : Bool) → Step edge (32 ∷ []) (escape_byte edge 32)
unfolding lib.Utf8.encode
space false = inl (refl, refl, refl)
space true = inr (inr (32, refl, (5, omega arith, record { front = codes "&#"; back = codes "32;"; are = refl; first = bare_markup (codes "&#"); second = inr (record { digits = codes "32"; are = refl; in_base = refl; spells = refl; allowed = refl }) })))

pub itself : (edge : Bool) (b : ℕ) → (b == 38) ≡ false → (b == 60) ≡ false → (b == 62) ≡ false → (b == 9) ≡ false → (b == 10) ≡ false → (b == 13) ≡ false → (b == 32) ≡ false → escape_byte edge b ≡ b ∷ []
itself edge b e1 e2 e3 e4 e5 e6 e7 = rw (e1, e2, e3, e4, e5, e6, e7) refl

literal_here : (b : ℕ) → (b == 38) ≡ false → (b == 60) ≡ false → (b == 9) ≡ false → (b == 10) ≡ false → (b == 13) ≡ false → (b == 32) ≡ false → is_literal b ≡ true
literal_here b e1 e2 e4 e5 e6 e7 = rw (e1, e2, e4, e5, e6, e7) refl

byte_step : (edge : Bool) (b : ℕ) → IsCharacter (b ∷ []) → Step edge (b ∷ []) (escape_byte edge b)
byte_step edge b is =
    ⊎_elim (λ h. subst (λ (k : ℕ). Step edge (k ∷ []) (escape_byte edge k)) (sym (same_byte b 38 h)) (ampersand edge)) (λ e1.
    ⊎_elim (λ h. subst (λ (k : ℕ). Step edge (k ∷ []) (escape_byte edge k)) (sym (same_byte b 60 h)) (less edge)) (λ e2.
    ⊎_elim (λ h. subst (λ (k : ℕ). Step edge (k ∷ []) (escape_byte edge k)) (sym (same_byte b 62 h)) (greater edge)) (λ e3.
    ⊎_elim (λ h. subst (λ (k : ℕ). Step edge (k ∷ []) (escape_byte edge k)) (sym (same_byte b 9 h)) (tab edge)) (λ e4.
    ⊎_elim (λ h. subst (λ (k : ℕ). Step edge (k ∷ []) (escape_byte edge k)) (sym (same_byte b 10 h)) (line_feed edge)) (λ e5.
    ⊎_elim (λ h. subst (λ (k : ℕ). Step edge (k ∷ []) (escape_byte edge k)) (sym (same_byte b 13 h)) (carriage_return edge)) (λ e6.
    ⊎_elim (λ h. subst (λ (k : ℕ). Step edge (k ∷ []) (escape_byte edge k)) (sym (same_byte b 32 h)) (space edge)) (λ e7.
    subst (λ u. Step edge (b ∷ []) u) (sym (itself edge b e1 e2 e3 e4 e5 e6 e7)) (inr (inl (record { character = is; first = literal_here b e1 e2 e4 e5 e6 e7 }, refl))))
    (cases_Bool (b == 32))) (cases_Bool (b == 13))) (cases_Bool (b == 10))) (cases_Bool (b == 9))) (cases_Bool (b == 62))) (cases_Bool (b == 60))) (cases_Bool (b == 38))

-- ---- characters of several bytes

-- a byte of such a character
abbrev is_high : ℕ → Bool
is_high b = nat_le 128 b

high_byte : (edge : Bool) (b : ℕ) → is_high b ≡ true → escape_byte edge b ≡ b ∷ []
high_byte edge b high =
    itself edge b (grind (arith, nat_tests)) (grind (arith, nat_tests)) (grind (arith, nat_tests)) (grind (arith, nat_tests)) (grind (arith, nat_tests)) (grind (arith, nat_tests)) (grind (arith, nat_tests))

high_literal : (b : ℕ) → is_high b ≡ true → is_literal b ≡ true
high_literal b high =
    literal_here b (grind (arith, nat_tests)) (grind (arith, nat_tests)) (grind (arith, nat_tests)) (grind (arith, nat_tests)) (grind (arith, nat_tests)) (grind (arith, nat_tests))

high_within : (range : ℕ × ℕ) (b : ℕ) → nat_le 128 range.0 ≡ true → is_within range b ≡ true → is_high b ≡ true
high_within range b low within = grind (arith, nat_tests)

abbrev are_high : List (ℕ × ℕ) → Bool
are_high row = list_all (λ range. nat_le 128 range.0) row

high_row : (row : List (ℕ × ℕ)) (x : List ℕ) → are_high row ≡ true → IsRow row x → list_all is_high x ≡ true
high_row [] x low is = subst (λ t. list_all is_high t ≡ true) (sym is) refl
high_row (range ∷ row) x low is =
    let both = and_split (nat_le 128 range.0) (are_high row) low in
    let whole : x ≡ is.first.0 ∷ is.back = is.are ∙ ap (λ t. t ++ is.back) is.first.1 in
    let here = high_within range is.first.0 both.0 is.first.2 in
    let rest = high_row row is.back both.1 is.second in
    let all : list_all is_high (is.first.0 ∷ is.back) ≡ true = rw (here, rest) refl in
    subst (λ t. list_all is_high t ≡ true) (sym whole) all

-- one byte, or high bytes alone
abbrev IsSplit : List ℕ → Type 0
IsSplit x = ((b : ℕ) × (x ≡ b ∷ [])) ⊎ ((b : ℕ) × (t : List ℕ) × (x ≡ b ∷ t) × (list_all is_high (b ∷ t) ≡ true))

one_byte : (range : ℕ × ℕ) (x : List ℕ) → IsRow (range ∷ []) x → IsSplit x
one_byte range x h = inl (h.first.0, h.are ∙ ap (λ t. t ++ h.back) h.first.1 ∙ ap (λ t. h.first.0 ∷ t) h.second)

high_bytes : (range : ℕ × ℕ) (row : List (ℕ × ℕ)) (x : List ℕ) → are_high (range ∷ row) ≡ true → IsRow (range ∷ row) x → IsSplit x
high_bytes range row x low h =
    let whole : x ≡ h.first.0 ∷ h.back = h.are ∙ ap (λ t. t ++ h.back) h.first.1 in
    inr (h.first.0, h.back, whole, subst (λ t. list_all is_high t ≡ true) whole (high_row (range ∷ row) x low h))

split_at : (place : ℕ) (x : List ℕ) → place < 13 → IsRow (row_at rows place) x → IsSplit x
split_at zero x within is = one_byte (0x20, 0x7F) x is
split_at (suc zero) x within is = one_byte (0x09, 0x0A) x is
split_at (suc (suc zero)) x within is = one_byte (0x0D, 0x0D) x is
split_at (suc (suc (suc zero))) x within is = high_bytes (0xC2, 0xDF) ((0x80, 0xBF) ∷ []) x refl is
split_at (suc (suc (suc (suc zero)))) x within is = high_bytes (0xE0, 0xE0) ((0xA0, 0xBF) ∷ (0x80, 0xBF) ∷ []) x refl is
split_at (suc (suc (suc (suc (suc zero))))) x within is = high_bytes (0xE1, 0xEC) ((0x80, 0xBF) ∷ (0x80, 0xBF) ∷ []) x refl is
split_at (suc (suc (suc (suc (suc (suc zero)))))) x within is = high_bytes (0xED, 0xED) ((0x80, 0x9F) ∷ (0x80, 0xBF) ∷ []) x refl is
split_at (suc (suc (suc (suc (suc (suc (suc zero))))))) x within is = high_bytes (0xEE, 0xEE) ((0x80, 0xBF) ∷ (0x80, 0xBF) ∷ []) x refl is
split_at (suc (suc (suc (suc (suc (suc (suc (suc zero)))))))) x within is = high_bytes (0xEF, 0xEF) ((0x80, 0xBE) ∷ (0x80, 0xBF) ∷ []) x refl is
split_at (suc (suc (suc (suc (suc (suc (suc (suc (suc zero))))))))) x within is = high_bytes (0xEF, 0xEF) ((0xBF, 0xBF) ∷ (0x80, 0xBD) ∷ []) x refl is
split_at (suc (suc (suc (suc (suc (suc (suc (suc (suc (suc zero)))))))))) x within is = high_bytes (0xF0, 0xF0) ((0x90, 0xBF) ∷ (0x80, 0xBF) ∷ (0x80, 0xBF) ∷ []) x refl is
split_at (suc (suc (suc (suc (suc (suc (suc (suc (suc (suc (suc zero))))))))))) x within is = high_bytes (0xF1, 0xF3) ((0x80, 0xBF) ∷ (0x80, 0xBF) ∷ (0x80, 0xBF) ∷ []) x refl is
split_at (suc (suc (suc (suc (suc (suc (suc (suc (suc (suc (suc (suc zero)))))))))))) x within is = high_bytes (0xF4, 0xF4) ((0x80, 0x8F) ∷ (0x80, 0xBF) ∷ (0x80, 0xBF) ∷ []) x refl is
split_at (suc (suc (suc (suc (suc (suc (suc (suc (suc (suc (suc (suc (suc place))))))))))))) x within is = absurd (omega arith)

escape_high : (first last : Bool) (b : ℕ) (t rest : List ℕ) → list_all is_high (b ∷ t) ≡ true → escape_part first last (b ∷ (t ++ rest)) ≡ b ∷ (t ++ escape_part false last rest)
escape_high first last b [] rest high =
    let both = and_split (is_high b) true high in
    escape_part-cons first last b rest ∙ ap (λ u. u ++ escape_part false last rest) (high_byte (first || (last && length rest == 0)) b both.0)
escape_high first last b (d ∷ t) rest high =
    let both = and_split (is_high b) (list_all is_high (d ∷ t)) high in
    escape_part-cons first last b (d ∷ (t ++ rest)) ∙ ap (λ u. u ++ escape_part false last (d ∷ (t ++ rest))) (high_byte (first || (last && length (d ∷ (t ++ rest)) == 0)) b both.0)
    ∙ ap (λ k. b ∷ k) (escape_high false last d t rest both.1)

-- ---- one character

-- what is written for a character in front
abbrev IsStep : Bool → Bool → List ℕ → List ℕ → Type 0
IsStep first last character rest =
    (unit : List ℕ) × (escape_part first last (character ++ rest) ≡ unit ++ escape_part false last rest) × Step (first || (last && length rest == 0)) character unit

step_of : (first last : Bool) (x rest : List ℕ) → IsCharacter x → IsSplit x → IsStep first last x rest
step_of first last x rest is (inl h) =
    let edge = first || (last && length rest == 0) in
    let here : IsCharacter (h.0 ∷ []) = subst IsCharacter h.1 is in (
      escape_byte edge h.0,
      ap (λ t. escape_part first last (t ++ rest)) h.1 ∙ escape_part-cons first last h.0 rest,
      subst (λ t. Step edge t (escape_byte edge h.0)) (sym h.1) (byte_step edge h.0 here),
    )
step_of first last x rest is (inr h) =
    let both = and_split (is_high h.0) (list_all is_high h.1) h.3 in
    let first_byte : begins is_literal x ≡ true = subst (λ t. begins is_literal t ≡ true) (sym h.2) (high_literal h.0 both.0) in (
      x,
      ap (λ t. escape_part first last (t ++ rest)) h.2 ∙ escape_high first last h.0 h.1 rest h.3 ∙ ap (λ t. t ++ escape_part false last rest) (sym h.2),
      inr (inl (record { character = is; first = first_byte }, refl)),
    )

step : (first last : Bool) (x rest : List ℕ) → IsCharacter x → IsStep first last x rest
step first last x rest is = step_of first last x rest is (split_at is.0 x is.1 is.2)

-- ---- a text

-- a space inside of a text belongs to the gap behind it
space_before : (rest bytes : List ℕ) → (length rest == 0) ≡ false → IsRest rest bytes → IsRest (32 ∷ rest) (32 ∷ bytes)
space_before rest bytes long (ends white is are none_left) = absurd (false≢true (sym long ∙ ap (λ (t : List ℕ). length t == 0) none_left))
space_before rest bytes long (goes gap here unit others behind gap_is unit_is rest_is are text_is) =
    goes (32 ∷ gap) here unit others behind gap_is unit_is rest_is (ap (λ t. 32 ∷ t) are) (ap (λ t. 32 ∷ t) text_is)

rest_step : (text x rest bytes : List ℕ) (s : IsStep false true x rest) → text ≡ x ++ rest → bytes ≡ s.0 ++ (escape_part false true rest ++ codes "<") → IsRest rest (escape_part false true rest ++ codes "<") → IsRest text bytes
rest_step text x rest bytes s are bytes_are next =
    ⊎_elim
    (λ h.
    let inside : IsRest (32 ∷ rest) (32 ∷ (escape_part false true rest ++ codes "<")) = space_before rest (escape_part false true rest ++ codes "<") h.2 next in
    let text_too : 32 ∷ rest ≡ text = ap (λ t. t ++ rest) (sym h.0) ∙ sym are in
    let bytes_too : 32 ∷ (escape_part false true rest ++ codes "<") ≡ bytes = ap (λ t. t ++ (escape_part false true rest ++ codes "<")) (sym h.1) ∙ sym bytes_are in
    subst (λ k. IsRest k bytes) text_too (subst (IsRest (32 ∷ rest)) bytes_too inside))
    (λ unit. goes [] x s.0 rest (escape_part false true rest ++ codes "<") refl unit next bytes_are are)
    s.2

end_written : IsRest [] (escape_part false true [] ++ codes "<")
end_written = ends [] refl (ap (λ t. t ++ codes "<") (escape_part-nil false true)) refl

written_bytes : (first : Bool) (text x rest : List ℕ) (s : IsStep first true x rest) → text ≡ x ++ rest → escape_part first true text ++ codes "<" ≡ s.0 ++ (escape_part false true rest ++ codes "<")
written_bytes first text x rest s are = ap (λ t. escape_part first true t ++ codes "<") are ∙ ap (λ t. t ++ codes "<") s.1 ∙ append_assoc s.0 (escape_part false true rest) (codes "<")

rest_written : (text : List ℕ) → IsXmlText text → IsRest text (escape_part false true text ++ codes "<")
rest_written text (none e) = subst (λ t. IsRest t (escape_part false true t ++ codes "<")) (sym e) end_written
rest_written text (one x rest is behind are) =
    let s = step false true x rest is in
    rest_step text x rest (escape_part false true text ++ codes "<") s are (written_bytes false text x rest s are) (rest_written rest behind)

none_written : IsText [] (escape_text [] ++ codes "<")
none_written = record { front = []; back = escape_text [] ++ codes "<"; are = refl; first = refl; second = inl (refl, ap (λ t. t ++ codes "<") (escape_part-nil true true)) }

units_step : (text x rest bytes : List ℕ) (s : IsStep true true x rest) → text ≡ x ++ rest → bytes ≡ s.0 ++ (escape_part false true rest ++ codes "<") → IsRest rest (escape_part false true rest ++ codes "<") → IsUnits text bytes
units_step text x rest bytes s are bytes_are next =
    ⊎_elim (λ h. absurd (false≢true (sym h.2)))
    (λ unit. record { here = x; unit = s.0; others = rest; rest = escape_part false true rest ++ codes "<"; is = unit; behind = next; are = bytes_are; text_is = are })
    s.2

-- what is written for a text spells it, up to the `<` of the end tag
pub text_written : (text : List ℕ) → IsXmlText text → IsText text (escape_text text ++ codes "<")
text_written text (none e) = subst (λ t. IsText t (escape_text t ++ codes "<")) (sym e) none_written
text_written text (one x rest is behind are) =
    let s = step true true x rest is in
    let units = units_step text x rest (escape_text text ++ codes "<") s are (written_bytes true text x rest s are) (rest_written rest behind) in
    record { front = []; back = escape_text text ++ codes "<"; are = refl; first = refl; second = inr units }

-- the element that holds the text, from behind its name on
pub leaf_written : (closing text : List ℕ) → IsXmlText text → IsLeaf closing text (codes ">" ++ ((escape_text text ++ codes "<") ++ bare closing))
leaf_written closing text is = inr (record {
  front = codes ">";
  back = (escape_text text ++ codes "<") ++ bare closing;
  are = refl;
  first = bare_markup (codes " >");
  second = record { front = escape_text text ++ codes "<"; back = bare closing; are = refl; first = text_written text is; second = bare_markup closing };
})
