-- The bytes of an escaped text, and what they decode to.
use Rattle.std.proofs.Common.{◌≡◌, ◌≢◌, ℕ, ◌/◌, ◌%◌, ◌<◌, Bool, true, false, not, ◌||◌, ◌==◌, List, [], ◌∷◌, ◌++◌, length, refl, ap, subst, ◌∙◌, arith}
use Rattle.std.specs.List.{AllByRecursion, list_all}
use Rattle.std.proofs.lemmas.Bool.{agree_below, agree_below_at, cond_both}
use Rattle.std.proofs.lemmas.Bool.Decides.{nat_tests}
use Rattle.std.specs.Fmt.{digit_glyph}
use Rattle.percent_encoding.specs.Percent.{percent_decode, percent_encode_byte}
use Rattle.percent_encoding.proofs.PercentLemmas.{percent_decode-nil, percent_decode_not_percent, percent_decode-percent_encode_byte}
use Rattle.oauth_text.specs.Escape.{is_unreserved, escape_byte, escape}
use Rattle.lti_outside.proofs.BoolLemmas.{and_split}
use Rattle.oauth_header.specs.Item.{is_name_byte, begins_with_digits, are_escapes}

no_percent : (b : ℕ) → is_unreserved b ≡ true → b ≢ 37
no_percent b unreserved = grind (arith, nat_tests)

-- decoding undoes the escape of a byte
decode_byte : (b : ℕ) (text : List ℕ) → b < 256 → percent_decode (escape_byte b ++ text) ≡ b ∷ percent_decode text
unfolding percent_encode_byte
decode_byte b text small =
    let high : b / 16 % 16 ≡ b / 16 = omega arith in
    let escaped : percent_decode (37 ∷ digit_glyph true (b / 16 % 16) ∷ digit_glyph true (b % 16) ∷ text) ≡ b ∷ percent_decode text = percent_decode-percent_encode_byte b text small in
    cond_both (is_unreserved b) (b ∷ []) (37 ∷ digit_glyph true (b / 16) ∷ digit_glyph true (b % 16) ∷ []) (λ front. percent_decode (front ++ text) ≡ b ∷ percent_decode text)
    (λ unreserved. percent_decode_not_percent b text (no_percent b unreserved))
    (λ _. subst (λ (n : ℕ). percent_decode (37 ∷ digit_glyph true n ∷ digit_glyph true (b % 16) ∷ text) ≡ b ∷ percent_decode text) high escaped)

-- decoding undoes the escapes
pub percent_decode-escape : (text : List ℕ) → AllByRecursion (λ b. b < 256) text → percent_decode (escape text) ≡ text
unfolding escape
percent_decode-escape [] small = percent_decode-nil
percent_decode-escape (b ∷ text) small = decode_byte b (escape text) small.0 ∙ ap (λ rest. b ∷ rest) (percent_decode-escape text small.1)

bytes_agree : agree_below (λ b. list_all is_name_byte (escape_byte b)) (λ _. true) 256 ≡ true
bytes_agree = refl

escapes_agree : agree_below (λ b. are_escapes (escape_byte b)) (λ _. true) 256 ≡ true
escapes_agree = refl

and_append : (p : ℕ → Bool) (xs ys : List ℕ) → list_all p xs ≡ true → list_all p ys ≡ true → list_all p (xs ++ ys) ≡ true
and_append p [] ys first second = second
and_append p (x ∷ xs) ys first second =
    let both = and_split (p x) (list_all p xs) first in
    rw (both.0, and_append p xs ys both.1 second) refl

-- an escaped text has bytes of a name alone
pub name_bytes-escape : (text : List ℕ) → AllByRecursion (λ b. b < 256) text → list_all is_name_byte (escape text) ≡ true
unfolding escape
name_bytes-escape [] small = refl
name_bytes-escape (b ∷ text) small =
    and_append is_name_byte (escape_byte b) (escape text)
    (agree_below_at (λ b. list_all is_name_byte (escape_byte b)) (λ _. true) 256 b bytes_agree small.0)
    (name_bytes-escape text small.1)

-- what follows whole escapes is no part of them
after_digits : (t : Bool) (xs ys : List ℕ) → (not t || begins_with_digits xs) ≡ true → (not t || begins_with_digits (xs ++ ys)) ≡ true
after_digits false xs ys e = refl
after_digits true [] ys e = absurd (cc)
after_digits true (x ∷ []) ys e = absurd (cc)
after_digits true (x ∷ y ∷ xs) ys e = e

escapes_append : (xs ys : List ℕ) → are_escapes xs ≡ true → are_escapes ys ≡ true → are_escapes (xs ++ ys) ≡ true
escapes_append [] ys first second = second
escapes_append (x ∷ xs) ys first second =
    let both = and_split (not (x == 37) || begins_with_digits xs) (are_escapes xs) first in
    rw (after_digits (x == 37) xs ys both.0, escapes_append xs ys both.1 second) refl

-- two hexadecimal digits stand behind each `%` of it
pub are_escapes-escape : (text : List ℕ) → AllByRecursion (λ b. b < 256) text → are_escapes (escape text) ≡ true
unfolding escape
are_escapes-escape [] small = refl
are_escapes-escape (b ∷ text) small =
    escapes_append (escape_byte b) (escape text)
    (agree_below_at (λ b. are_escapes (escape_byte b)) (λ _. true) 256 b escapes_agree small.0)
    (are_escapes-escape text small.1)

some_agree : agree_below (λ b. not (length (escape_byte b) == 0)) (λ _. true) 256 ≡ true
some_agree = refl

-- bytes behind a text that isn't empty
pub longer : (xs ys : List ℕ) → not (length xs == 0) ≡ true → not (length (xs ++ ys) == 0) ≡ true
longer [] ys some = absurd (cc)
longer (x ∷ xs) ys some = grind (arith, nat_tests)

-- it is empty only where the text is
pub some-escape : (text : List ℕ) → AllByRecursion (λ b. b < 256) text → not (length text == 0) ≡ true → not (length (escape text) == 0) ≡ true
unfolding escape
some-escape [] small some = absurd (cc)
some-escape (b ∷ text) small some =
    longer (escape_byte b) (escape text) (agree_below_at (λ b. not (length (escape_byte b) == 0)) (λ _. true) 256 b some_agree small.0)
