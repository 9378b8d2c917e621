-- Which bytes stand in the parts of a written request.
use Rattle.std.proofs.Common.{◌≡◌, ℕ, suc, ◌+◌, ◌-◌, ◌<◌, ◌≤◌, ◌^◌, ◌==◌, ◌&&◌, not, leb, Bool, true, false, cond, List, [], ◌∷◌, ◌++◌, length, get_or, take, drop, map, reverse, refl, sym, ap, ◌∙◌, subst, arith, ⊎_elim, length-take}
use Rattle.std.specs.Prelude.{decimal}
use Rattle.std.specs.Char.{to_ascii_lowercase, is_ascii_digit, is_ascii_uppercase, digit_value}
use Rattle.std.specs.List.{list_all, list_any, position_or_len, before_first, after_first}
use Rattle.std.specs.Str.Parse.{AllDigits, digits_value}
use Rattle.std.proofs.lemmas.Bool.{cases_Bool, cases_lt}
use Rattle.std.proofs.lemmas.Bool.Decides.{nat_tests}
use Rattle.std.proofs.lemmas.Fmt.{decimal_is_IsNumeral_wide, length-decimal-le_wide}
use Rattle.std.proofs.lemmas.List.{get_or-take}
use Rattle.std.proofs.lemmas.List.Elements.{All-get_or, All-from_get_or, All-weaker}
use Rattle.std.proofs.lemmas.List.Folds.{list_all-append}
use Rattle.std.proofs.lemmas.List.Sums.{AllPass-from_list_all, list_all-from_AllPass}
use Rattle.httparse.specs.Grammar.{is_token_byte, is_uri_byte, is_value_byte, is_ows, skip_ows, AllPass}
use Rattle.httparse.proofs.TrimLemmas.{AllPass-reverse}
use Rattle.oauth_text.specs.Host.{is_name_byte, is_address_byte, is_plain_name, is_closed, is_address, is_host_name, name_len, is_port, is_suffix, is_host}
use Rattle.lti_outside.proofs.BoolLemmas.{and_split, or_split}
use Rattle.lti_outside.proofs.DigitLemmas.{decimal_parts}
use Rattle.http_wire.specs.Taking.{HasNoLineFeed}
use Rattle.http_wire.specs.Headers.{is_text_byte, is_length}
use Rattle.http_wire.specs.Head.{is_target_byte, is_target}
use Rattle.http_wire.specs.Written.{query_text, is_path, is_media_byte}
use Rattle.http_wire.proofs.HeaderLemmas.{neither}
use Rattle.http_wire.proofs.BackHost.{and_join, is_byte, whole}

-- a byte from 0x21 to 0x7E
abbrev pub is_visible : ℕ → Bool
is_visible b = leb 33 b && leb b 126

pub all_weaker : (f g : ℕ → Bool) → ((b : ℕ) → f b ≡ true → g b ≡ true) → (xs : List ℕ) → list_all f xs ≡ true → list_all g xs ≡ true
all_weaker f g weaker [] all = refl
all_weaker f g weaker (b ∷ xs) all =
    let both = and_split (f b) (list_all f xs) all in
    and_join (g b) _ (weaker b both.0) (all_weaker f g weaker xs both.1)

pub weaker_pass : (f g : ℕ → Bool) → ((b : ℕ) → f b ≡ true → g b ≡ true) → (xs : List ℕ) → list_all f xs ≡ true → AllPass g xs
weaker_pass f g weaker xs all = AllPass-from_list_all g xs (all_weaker f g weaker xs all)

pub all_join : (f : ℕ → Bool) (xs ys : List ℕ) → list_all f xs ≡ true → list_all f ys ≡ true → list_all f (xs ++ ys) ≡ true
all_join f xs ys one other = list_all-append f xs ys ∙ and_join (list_all f xs) _ one other

not_byte : (f : ℕ → Bool) (c : ℕ) → f c ≡ false → (b : ℕ) → f b ≡ true → (b == c) ≡ false
not_byte f c fails b test =
    ⊎_elim (λ same. absurd (let e = sym (subst (λ (k : ℕ). f k ≡ true) (is_byte b c same) test) ∙ fails in cc)) (λ other. other) (cases_Bool (b == c))

pub no_feed : (f : ℕ → Bool) → f 10 ≡ false → (xs : List ℕ) → list_all f xs ≡ true → HasNoLineFeed xs
no_feed f fails xs all = All-weaker (λ b. f b ≡ true) (λ b. (b == 10) ≡ false) (not_byte f 10 fails) xs (AllPass-from_list_all f xs all)

pub token_no_feed : (xs : List ℕ) → list_all is_token_byte xs ≡ true → HasNoLineFeed xs
unfolding is_token_byte
token_no_feed xs all = no_feed is_token_byte refl xs all

pub token_no_return : (b : ℕ) → is_token_byte b ≡ true → (b == 13) ≡ false
unfolding is_token_byte
token_no_return b test = not_byte is_token_byte 13 refl b test

visible_text : (b : ℕ) → is_visible b ≡ true → is_text_byte b ≡ true
visible_text b test = grind (arith, nat_tests)

pub text_of_visible : (xs : List ℕ) → list_all is_visible xs ≡ true → list_all is_text_byte xs ≡ true
text_of_visible xs all = all_weaker is_visible is_text_byte visible_text xs all

text_value : (b : ℕ) → is_text_byte b ≡ true → is_value_byte b ≡ true
text_value b test = grind (arith, nat_tests)

pub value_of_text : (xs : List ℕ) → list_all is_text_byte xs ≡ true → list_all is_value_byte xs ≡ true
value_of_text xs all = all_weaker is_text_byte is_value_byte text_value xs all

target_uri : (b : ℕ) → is_target_byte b ≡ true → is_uri_byte b ≡ true
target_uri b test = grind (arith, nat_tests)

pub uri_of_target : (xs : List ℕ) → list_all is_target_byte xs ≡ true → AllPass is_uri_byte xs
uri_of_target xs all = weaker_pass is_target_byte is_uri_byte target_uri xs all

media_text : (b : ℕ) → is_media_byte b ≡ true → is_text_byte b ≡ true
media_text b test = (and_split (is_text_byte b) (not (b == 59)) (and_split (is_text_byte b && not (b == 59)) (not (is_ascii_uppercase b)) test).0).0

pub text_of_media : (xs : List ℕ) → list_all is_media_byte xs ≡ true → list_all is_text_byte xs ≡ true
text_of_media xs all = all_weaker is_media_byte is_text_byte media_text xs all

-- visible bytes have no space or tab at their ends
visible_not_ows : (b : ℕ) → is_visible b ≡ true → not (is_ows b) ≡ true
visible_not_ows b test = grind (arith, nat_tests)

skip_none : (xs : List ℕ) → list_all (λ b. not (is_ows b)) xs ≡ true → skip_ows xs ≡ xs
skip_none [] none = refl
skip_none (b ∷ xs) none = by_first (is_ows b) (and_split (not (is_ows b)) _ none).0
  where
    by_first : (t : Bool) → not t ≡ true → cond t (skip_ows xs) (b ∷ xs) ≡ b ∷ xs
    by_first true test = absurd (cc)
    by_first false test = refl

pub visible_front : (xs : List ℕ) → list_all is_visible xs ≡ true → skip_ows xs ≡ xs
visible_front xs all = skip_none xs (all_weaker is_visible (λ b. not (is_ows b)) visible_not_ows xs all)

pub visible_end : (xs : List ℕ) → list_all is_visible xs ≡ true → skip_ows (reverse xs) ≡ reverse xs
visible_end xs all =
    skip_none (reverse xs)
    (list_all-from_AllPass (λ b. not (is_ows b)) (reverse xs) (AllPass-reverse (λ b. not (is_ows b)) xs (weaker_pass is_visible (λ b. not (is_ows b)) visible_not_ows xs all)))

-- the bytes of a host are visible
name_visible : (b : ℕ) → is_name_byte b ≡ true → is_visible b ≡ true
name_visible b test = grind (arith, nat_tests)

address_visible : (b : ℕ) → is_address_byte b ≡ true → is_visible b ≡ true
address_visible b test = grind (arith, nat_tests)

digit_visible : (b : ℕ) → is_ascii_digit b ≡ true → is_visible b ≡ true
digit_visible b test = grind (arith, nat_tests)

byte_visible : (b c : ℕ) → is_visible c ≡ true → (b == c) ≡ true → is_visible b ≡ true
byte_visible b c test is = subst (λ (k : ℕ). is_visible k ≡ true) (sym (is_byte b c is)) test

closed_visible : (rest : List ℕ) → is_closed rest ≡ true → list_all is_visible rest ≡ true
closed_visible rest test =
    let outer = and_split (leb 2 (length rest) && leb (length rest) 46 && get_or rest (length rest - 1) 0 == 93) (list_all is_address_byte (take (length rest - 1) rest)) test in
    let last = and_split (leb 2 (length rest) && leb (length rest) 46) (get_or rest (length rest - 1) 0 == 93) outer.0 in
    let front = AllPass-from_list_all is_address_byte (take (length rest - 1) rest) outer.1 in
    list_all-from_AllPass is_visible rest
    (All-from_get_or (λ (b : ℕ). is_visible b ≡ true) rest 0
    (λ i within.
    ⊎_elim
    (λ before.
    subst (λ (b : ℕ). is_visible b ≡ true) (get_or-take (length rest - 1) rest i 0 before)
    (address_visible (get_or (take (length rest - 1) rest) i 0) (All-get_or (λ b. is_address_byte b ≡ true) (take (length rest - 1) rest) i 0 (omega (arith, length-take (length rest - 1) rest)) front)))
    (λ after.
    let at : length rest - 1 ≡ i = omega arith in
    subst (λ (k : ℕ). is_visible (get_or rest k 0) ≡ true) at (byte_visible (get_or rest (length rest - 1) 0) 93 refl last.1))
    (cases_lt i (length rest - 1))))

name_bytes_visible : (name : List ℕ) → is_host_name name ≡ true → list_all is_visible name ≡ true
name_bytes_visible name test =
    ⊎_elim
    (λ plain_name. all_weaker is_name_byte is_visible name_visible name (and_split (leb 1 (length name) && leb (length name) 255) (list_all is_name_byte name) plain_name).1)
    (address name)
    (or_split (is_plain_name name) (is_address name) test)
  where
    address : (xs : List ℕ) → is_address xs ≡ true → list_all is_visible xs ≡ true
    address [] t = refl
    address (b ∷ xs) t =
        let both = and_split (b == 91) (is_closed xs) t in
        and_join (is_visible b) _ (byte_visible b 91 refl both.0) (closed_visible xs both.1)

suffix_visible : (suffix : List ℕ) → is_suffix suffix ≡ true → list_all is_visible suffix ≡ true
suffix_visible [] test = refl
suffix_visible (b ∷ digits) test =
    let both = and_split (b == 58) (is_port digits) test in
    let port = and_split _ (leb (digits_value 10 digits) 65535) both.1 in
    let first = and_split _ (leb 1 (get_or digits 0 0 - 48)) port.0 in
    and_join (is_visible b) _ (byte_visible b 58 refl both.0) (all_weaker is_ascii_digit is_visible digit_visible digits (decimal_parts 5 digits first.0).0)

pub host_visible : (text : List ℕ) → is_host text ≡ true → list_all is_visible text ≡ true
host_visible text test =
    let n = name_len text in
    let both = and_split (is_host_name (take n text)) (is_suffix (drop n text)) test in
    ap (list_all is_visible) (sym (whole n text)) ∙ all_join is_visible (take n text) (drop n text) (name_bytes_visible (take n text) both.0) (suffix_visible (drop n text) both.1)

-- the digits of a length
digit_test : (b : ℕ) → digit_value b < 10 → is_ascii_digit b ≡ true
digit_test b small = grind (arith, nat_tests)

pub digits_test : (ds : List ℕ) → AllDigits 10 ds → list_all is_ascii_digit ds ≡ true
digits_test [] all = refl
digits_test (b ∷ ds) all = and_join (is_ascii_digit b) _ (digit_test b all.0) (digits_test ds all.1)

some_length : (n : ℕ) → 0 < n → leb 1 n ≡ true
some_length n some = grind (arith, nat_tests)

few_length : (n : ℕ) → n ≤ 19 → leb n 19 ≡ true
few_length n few = grind (arith, nat_tests)

pub length_back : (n : ℕ) → n < 10 ^ 19 → (is_length (decimal n) ≡ true) × (digits_value 10 (decimal n) ≡ n)
length_back n small =
    let numeral = decimal_is_IsNumeral_wide n (omega (arith, small)) in
    let short = length-decimal-le_wide 19 n (omega arith) small (omega (arith, small)) in (
      and_join _ _ (and_join _ _ (some_length (length (decimal n)) numeral.0.0) (few_length (length (decimal n)) short)) (digits_test (decimal n) numeral.0.1),
      numeral.1,
    )

pub decimal_visible : (n : ℕ) → n < 10 ^ 19 → list_all is_visible (decimal n) ≡ true
decimal_visible n small = all_weaker is_ascii_digit is_visible digit_visible (decimal n) (digits_test (decimal n) (decimal_is_IsNumeral_wide n (omega (arith, small))).0.1)

-- the target is cut at its first `?`
one_more : (n : ℕ) → 1 + n ≡ suc n
one_more n = omega arith

two_more : (n : ℕ) → (1 + n) + 1 ≡ suc (n + 1)
two_more n = omega arith

pub cut_back : (path query : List ℕ) → list_any (λ b. b == 63) path ≡ false
    → (before_first (λ b. b == 63) (path ++ query_text query) ≡ path) × (after_first (λ b. b == 63) (path ++ query_text query) ≡ query)
cut_back [] [] none = (refl, refl)
cut_back [] (b ∷ query) none = (refl, refl)
cut_back (c ∷ path) query none =
    let both = neither (c == 63) (list_any (λ b. b == 63) path) none in
    let rest = cut_back path query both.1 in
    let n = position_or_len (λ b. b == 63) (path ++ query_text query) in
    let at : position_or_len (λ b. b == 63) (c ∷ (path ++ query_text query)) ≡ 1 + n = ap (λ t. cond (not t) (1 + n) 0) both.0 in (
      ap (λ k. take k (c ∷ (path ++ query_text query))) (at ∙ one_more n) ∙ ap (λ xs. c ∷ xs) rest.0,
      ap (λ k. drop k (c ∷ (path ++ query_text query))) (ap (λ k. k + 1) at ∙ two_more n) ∙ rest.1,
    )

-- a media type is its own media type
kept_lower : (b : ℕ) → is_ascii_uppercase b ≡ false → to_ascii_lowercase b ≡ b
kept_lower b test = grind (arith, nat_tests)

not_false : (t : Bool) → not t ≡ true → t ≡ false
not_false true test = absurd (cc)
not_false false test = refl

pub media_kept : (media : List ℕ) → list_all is_media_byte media ≡ true → (before_first (λ b. b == 59) media ≡ media) × (map to_ascii_lowercase media ≡ media)
media_kept [] all = (refl, refl)
media_kept (b ∷ media) all =
    let both = and_split (is_media_byte b) (list_all is_media_byte media) all in
    let rest = media_kept media both.1 in
    let parts = and_split (is_text_byte b && not (b == 59)) (not (is_ascii_uppercase b)) both.0 in
    let other = not_false (b == 59) (and_split (is_text_byte b) (not (b == 59)) parts.0).1 in
    let n = position_or_len (λ c. c == 59) media in
    let at : position_or_len (λ c. c == 59) (b ∷ media) ≡ suc n = ap (λ t. cond (not t) (1 + n) 0) other ∙ one_more n in (
      ap (λ k. take k (b ∷ media)) at ∙ ap (λ xs. b ∷ xs) rest.0,
      λ i. kept_lower b (not_false (is_ascii_uppercase b) parts.1) i ∷ rest.1 i,
    )

-- a path and its query are a target
pub target_back : (path query : List ℕ) → is_path path ≡ true → list_all is_target_byte query ≡ true
    → (is_target (path ++ query_text query) ≡ true) × (list_all is_target_byte (path ++ query_text query) ≡ true) × (0 < length (path ++ query_text query))
target_back [] query test all = absurd (cc)
target_back (b ∷ path) query test all =
    let both = and_split (is_target (b ∷ path)) (not (list_any (λ c. c == 63) (b ∷ path))) test in
    let parts = and_split (b == 47) (list_all is_target_byte path) both.0 in
    let mark : list_all is_target_byte (query_text query) ≡ true = query_bytes query all in
    let rest = all_join is_target_byte path (query_text query) parts.1 mark in (
      and_join (b == 47) _ parts.0 rest,
      and_join (is_target_byte b) _ (subst (λ (k : ℕ). is_target_byte k ≡ true) (sym (is_byte b 47 parts.0)) refl) rest,
      omega arith,
    )
  where
    query_bytes : (q : List ℕ) → list_all is_target_byte q ≡ true → list_all is_target_byte (query_text q) ≡ true
    query_bytes [] t = refl
    query_bytes (c ∷ q) t = t
