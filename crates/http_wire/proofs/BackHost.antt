-- A host is read back from its name and its port.
use Rattle.std.proofs.Common.{◌≡◌, ℕ, zero, suc, ◌+◌, ◌-◌, ◌<◌, ◌^◌, ◌==◌, ◌&&◌, ◌||◌, not, min, leb, Bool, true, false, cond, List, [], ◌∷◌, ◌++◌, length, get_or, take, drop, map, refl, sym, ap, ◌∙◌, subst, arith, Option, ⊎_elim}
use Rattle.std.specs.Char.{to_ascii_lowercase}
use Rattle.std.specs.Cmp.{both_ways}
use Rattle.std.specs.List.{list_all, position_or_len}
use Rattle.std.specs.Str.Parse.{AllDigits, digits_value}
use Rattle.std.proofs.lemmas.Bool.{agree_below_at}
use Rattle.std.proofs.lemmas.Bool.Decides.{nat_tests}
use Rattle.std.proofs.lemmas.Fmt.{decimal-digits_value}
use Rattle.std.proofs.lemmas.Str.Parse.{IsNumeralModel}
use Rattle.std.proofs.lemmas.List.{length-map, take-map}
use Rattle.std.proofs.Math.ListN.{get_or-map}
use Rattle.oauth_text.specs.Host.{is_name_byte, is_address_byte, is_plain_name, is_closed, is_address, is_host_name, name_len, is_port, is_suffix, port_in, IsHostOf}
use Rattle.lti_outside.proofs.BoolLemmas.{and_split, or_split}
use Rattle.lti_outside.proofs.DigitLemmas.{decimal_parts}
use Rattle.http_wire.specs.Written.{port_text, host_text}
use Rattle.http_wire.proofs.HeaderLemmas.{or_left, or_right}
use Rattle.http_wire.proofs.NumberLemmas.{all_digits}

pub is_byte : (b c : ℕ) → (b == c) ≡ true → b ≡ c
is_byte b c test = grind (arith, nat_tests)

same_byte : (b c : ℕ) → b ≡ c → (b == c) ≡ true
same_byte b c is = grind (arith, nat_tests)

pub and_join : (x y : Bool) → x ≡ true → y ≡ true → (x && y) ≡ true
and_join true y one other = other
and_join false y one other = absurd (cc)

pub implied : (x y : Bool) → (not x || y) ≡ true → x ≡ true → y ≡ true
implied true y test is = test
implied false y test is = absurd (cc)

-- `:`, `[` and `]` are no letters
colon_kept : (b : ℕ) → (to_ascii_lowercase b == 58) ≡ (b == 58)
colon_kept b = both_ways (to_ascii_lowercase b == 58) (b == 58) (λ t. grind (arith, nat_tests)) (λ t. grind (arith, nat_tests))

open_kept : (b : ℕ) → (to_ascii_lowercase b == 91) ≡ (b == 91)
open_kept b = both_ways (to_ascii_lowercase b == 91) (b == 91) (λ t. grind (arith, nat_tests)) (λ t. grind (arith, nat_tests))

close_kept : (b : ℕ) → (to_ascii_lowercase b == 93) ≡ (b == 93)
close_kept b = both_ways (to_ascii_lowercase b == 93) (b == 93) (λ t. grind (arith, nat_tests)) (λ t. grind (arith, nat_tests))

lower_twice : (b : ℕ) → to_ascii_lowercase (to_ascii_lowercase b) ≡ to_ascii_lowercase b
lower_twice b = grind (arith, nat_tests)

lowers_twice : (xs : List ℕ) → map to_ascii_lowercase (map to_ascii_lowercase xs) ≡ map to_ascii_lowercase xs
lowers_twice [] = refl
lowers_twice (b ∷ xs) = λ i. lower_twice b i ∷ lowers_twice xs i

-- the first place of a byte that is no letter
same_place : (c : ℕ) → ((b : ℕ) → (to_ascii_lowercase b == c) ≡ (b == c)) → (a s : List ℕ)
    → position_or_len (λ b. b == c) (map to_ascii_lowercase a ++ s) ≡ position_or_len (λ b. b == c) (a ++ s)
same_place c kept [] s = refl
same_place c kept (b ∷ a) s = λ i. cond (not (kept b i)) (1 + same_place c kept a s i) 0

same_length : (a s : List ℕ) → length (map to_ascii_lowercase a ++ s) ≡ length (a ++ s)
same_length [] s = refl
same_length (b ∷ a) s = ap suc (same_length a s)

same_name_len : (a s : List ℕ) → name_len (map to_ascii_lowercase a ++ s) ≡ name_len (a ++ s)
same_name_len [] s = refl
same_name_len (b ∷ a) s = λ i.
    cond (open_kept b i) (min (same_length a s i + 1) (same_place 93 close_kept a s i + 2)) (cond (not (colon_kept b i)) (1 + same_place 58 colon_kept a s i) 0)

cut_front : (n : ℕ) (text : List ℕ) → take n (map to_ascii_lowercase (take n text) ++ drop n text) ≡ map to_ascii_lowercase (take n text)
cut_front zero text = refl
cut_front (suc n) [] = refl
cut_front (suc n) (b ∷ text) = ap (λ xs. to_ascii_lowercase b ∷ xs) (cut_front n text)

cut_rest : (n : ℕ) (text : List ℕ) → drop n (map to_ascii_lowercase (take n text) ++ drop n text) ≡ drop n text
cut_rest zero text = refl
cut_rest (suc n) [] = refl
cut_rest (suc n) (b ∷ text) = cut_rest n text

pub whole : (n : ℕ) (text : List ℕ) → take n text ++ drop n text ≡ text
whole zero text = refl
whole (suc n) [] = refl
whole (suc n) (b ∷ text) = ap (λ xs. b ∷ xs) (whole n text)

-- bytes of a name are below 128, and stay bytes of a name in lower case
small_name : (b : ℕ) → is_name_byte b ≡ true → b < 128
small_name b test = grind (arith, nat_tests)

small_address : (b : ℕ) → is_address_byte b ≡ true → b < 128
small_address b test = grind (arith, nat_tests)

name_lower : (b : ℕ) → is_name_byte b ≡ true → is_name_byte (to_ascii_lowercase b) ≡ true
name_lower b test =
    implied (is_name_byte b) _ (agree_below_at (λ k. not (is_name_byte k) || is_name_byte (to_ascii_lowercase k)) (λ _. true) 128 b refl (small_name b test)) test

address_lower : (b : ℕ) → is_address_byte b ≡ true → is_address_byte (to_ascii_lowercase b) ≡ true
address_lower b test =
    implied (is_address_byte b) _ (agree_below_at (λ k. not (is_address_byte k) || is_address_byte (to_ascii_lowercase k)) (λ _. true) 128 b refl (small_address b test)) test

all_lower : (f : ℕ → Bool) → ((b : ℕ) → f b ≡ true → f (to_ascii_lowercase b) ≡ true) → (xs : List ℕ) → list_all f xs ≡ true → list_all f (map to_ascii_lowercase xs) ≡ true
all_lower f kept [] all = refl
all_lower f kept (b ∷ xs) all =
    let both = and_split (f b) (list_all f xs) all in
    and_join (f (to_ascii_lowercase b)) _ (kept b both.0) (all_lower f kept xs both.1)

plain_name_lower : (xs : List ℕ) → is_plain_name xs ≡ true → is_plain_name (map to_ascii_lowercase xs) ≡ true
plain_name_lower xs test =
    let both = and_split (leb 1 (length xs) && leb (length xs) 255) (list_all is_name_byte xs) test in
    and_join (leb 1 (length (map to_ascii_lowercase xs)) && leb (length (map to_ascii_lowercase xs)) 255) _
    (ap (λ n. leb 1 n && leb n 255) (length-map xs to_ascii_lowercase) ∙ both.0)
    (all_lower is_name_byte name_lower xs both.1)

closed_lower : (xs : List ℕ) → is_closed xs ≡ true → is_closed (map to_ascii_lowercase xs) ≡ true
closed_lower xs test =
    let outer = and_split (leb 2 (length xs) && leb (length xs) 46 && get_or xs (length xs - 1) 0 == 93) (list_all is_address_byte (take (length xs - 1) xs)) test in
    let inner = and_split (leb 2 (length xs) && leb (length xs) 46) (get_or xs (length xs - 1) 0 == 93) outer.0 in
    let same : length (map to_ascii_lowercase xs) ≡ length xs = length-map xs to_ascii_lowercase in
    let last : (get_or (map to_ascii_lowercase xs) (length xs - 1) 0 == 93) ≡ true
    = ap (λ b. b == 93) (get_or-map to_ascii_lowercase xs (length xs - 1) 0) ∙ close_kept (get_or xs (length xs - 1) 0) ∙ inner.1 in
    let front : list_all is_address_byte (take (length xs - 1) (map to_ascii_lowercase xs)) ≡ true
    = ap (list_all is_address_byte) (take-map to_ascii_lowercase (length xs - 1) xs) ∙ all_lower is_address_byte address_lower (take (length xs - 1) xs) outer.1 in
    ap (λ n. leb 2 n && leb n 46 && get_or (map to_ascii_lowercase xs) (n - 1) 0 == 93 && list_all is_address_byte (take (n - 1) (map to_ascii_lowercase xs))) same
    ∙ and_join _ _ (and_join _ _ inner.0 last) front

address_name_lower : (xs : List ℕ) → is_address xs ≡ true → is_address (map to_ascii_lowercase xs) ≡ true
address_name_lower [] test = test
address_name_lower (b ∷ xs) test =
    let both = and_split (b == 91) (is_closed xs) test in
    and_join _ _ (open_kept b ∙ both.0) (closed_lower xs both.1)

host_name_lower : (xs : List ℕ) → is_host_name xs ≡ true → is_host_name (map to_ascii_lowercase xs) ≡ true
host_name_lower xs test =
    ⊎_elim (λ name. or_left _ _ (plain_name_lower xs name)) (λ address. or_right (is_plain_name (map to_ascii_lowercase xs)) _ (address_name_lower xs address)) (or_split (is_plain_name xs) (is_address xs) test)

own_digits : IsNumeralModel (AllDigits 10) (digits_value 10)
own_digits = record { to = λ ds all. all; from = λ ds all. all; same = λ ds all. refl }

small_port : (n : ℕ) → leb n 65535 ≡ true → n < 2 ^ 64
small_port n test = grind (arith, nat_tests)

not_zero : (b : ℕ) → leb 1 (b - 48) ≡ true → b ≡ 48 → ⊥
not_zero b test is = grind (arith, nat_tests)

-- a suffix is the text of its port
suffix_text : (suffix : List ℕ) → is_suffix suffix ≡ true → port_text (port_in suffix) ≡ suffix
suffix_text [] test = refl
suffix_text (colon ∷ digits) test =
    let both = and_split (colon == 58) (is_port digits) test in
    let port = and_split (_ && leb 1 (get_or digits 0 0 - 48)) (leb (digits_value 10 digits) 65535) both.1 in
    let first = and_split _ (leb 1 (get_or digits 0 0 - 48)) port.0 in
    let parts = decimal_parts 5 digits first.0 in
    let written = decimal-digits_value own_digits digits (all_digits digits parts.0) (omega (arith, parts.1)) (λ zero. absurd (not_zero (get_or digits 0 0) first.1 zero)) (small_port (digits_value 10 digits) port.1) in
    let is = sym (is_byte colon 58 both.0) in
    λ i. is i ∷ written i

-- a host is the host of its name and its port
pub host_back : (text name : List ℕ) (port : Option ℕ) → IsHostOf text name port → IsHostOf (host_text name port) name port
host_back text name port is =
    let n = name_len text in
    let both = and_split (is_host_name (take n text)) (is_suffix (drop n text)) is.0 in
    let lower = map to_ascii_lowercase (take n text) in
    let written : host_text name port ≡ lower ++ drop n text
    = (λ i. (sym is.1 i).0 ++ port_text ((sym is.1 i).1)) ∙ ap (λ s. lower ++ s) (suffix_text (drop n text) both.1) in
    let len : name_len (lower ++ drop n text) ≡ n = same_name_len (take n text) (drop n text) ∙ ap name_len (whole n text) in
    let front : take (name_len (lower ++ drop n text)) (lower ++ drop n text) ≡ lower = ap (λ k. take k (lower ++ drop n text)) len ∙ cut_front n text in
    let rest : drop (name_len (lower ++ drop n text)) (lower ++ drop n text) ≡ drop n text = ap (λ k. drop k (lower ++ drop n text)) len ∙ cut_rest n text in
    subst (λ (t : List ℕ). IsHostOf t name port) (sym written) (
      (λ i. is_host_name (front i) && is_suffix (rest i)) ∙ and_join _ _ (host_name_lower (take n text) both.0) both.1,
      (λ i. (map to_ascii_lowercase (front i), port_in (rest i))) ∙ (λ i. (lowers_twice (take n text) i, port_in (drop n text))) ∙ is.1,
    )
