-- Values as they are read: trimmed, and cut at a byte.
use Rattle.std.proofs.Common.{◌≡◌, ℕ, suc, ◌+◌, ◌<◌, ◌≤◌, ◌==◌, ◌&&◌, ◌||◌, not, Bool, true, false, cond, List, [], ◌∷◌, ◌++◌, length, take, drop, map, filter, reverse, refl, sym, ap, ◌∙◌, subst, arith, ⊎_elim}
use Rattle.std.specs.Char.{to_ascii_lowercase}
use Rattle.std.specs.List.{list_all, list_any, position_or_len, before_first, after_first}
use Rattle.std.specs.Str.{bytes_eq}
use Rattle.std.proofs.lemmas.Bool.{cases_Bool, agree_below_at}
use Rattle.std.proofs.lemmas.Bool.Decides.{nat_tests}
use Rattle.std.proofs.lemmas.List.{map-append, reverse-append, reverse-reverse, take-append-drop}
use Rattle.std.proofs.lemmas.List.Folds.{list_all-append}
use Rattle.std.proofs.lemmas.Slice.Eq.{bytes_eq-Decides}
use Rattle.std.specs.Cmp.{both_ways}
use Rattle.httparse.specs.Grammar.{Field, is_ows, skip_ows, trim_ows}
use Rattle.httparse.specs.Spans.{name_and_value}
use Rattle.lti_outside.proofs.BoolLemmas.{and_split}
use Rattle.http_wire.specs.Headers.{is_named, values_of, first_in, is_text_byte, trim_end, media_in}
use Rattle.http_wire.specs.Written.{is_trimmed, is_media_byte, is_media}
use Rattle.http_wire.proofs.HeaderLemmas.{neither}
use Rattle.http_wire.proofs.BackHost.{and_join, implied}

one_more : (n : ℕ) → 1 + n ≡ suc n
one_more n = omega arith

two_more : (n : ℕ) → (1 + n) + 1 ≡ suc (n + 1)
two_more n = omega arith

-- ---- cut at a byte

pub first_cut : (c b : ℕ) (xs : List ℕ) → (b == c) ≡ false
    → (before_first (λ k. k == c) (b ∷ xs) ≡ b ∷ before_first (λ k. k == c) xs) × (after_first (λ k. k == c) (b ∷ xs) ≡ after_first (λ k. k == c) xs)
first_cut c b xs other =
    let n = position_or_len (λ k. k == c) xs in
    let at : position_or_len (λ k. k == c) (b ∷ xs) ≡ 1 + n = ap (λ t. cond (not t) (1 + n) 0) other in (
      ap (λ k. take k (b ∷ xs)) (at ∙ one_more n),
      ap (λ k. drop k (b ∷ xs)) (ap (λ k. k + 1) at ∙ two_more n),
    )

first_stop : (c b : ℕ) (xs : List ℕ) → (b == c) ≡ true → (before_first (λ k. k == c) (b ∷ xs) ≡ []) × (after_first (λ k. k == c) (b ∷ xs) ≡ xs)
first_stop c b xs same =
    let n = position_or_len (λ k. k == c) xs in
    let at : position_or_len (λ k. k == c) (b ∷ xs) ≡ 0 = ap (λ t. cond (not t) (1 + n) 0) same in
    (ap (λ k. take k (b ∷ xs)) at, ap (λ k. drop (k + 1) (b ∷ xs)) at)

pub record IsCut (f : ℕ → Bool) (c : ℕ) (xs : List ℕ) : Type 0 where
  pub front : list_all f (before_first (λ k. k == c) xs) ≡ true
  pub none : list_any (λ k. k == c) (before_first (λ k. k == c) xs) ≡ false
  pub back : list_all f (after_first (λ k. k == c) xs) ≡ true

nor : (x y : Bool) → x ≡ false → y ≡ false → (x || y) ≡ false
nor true y one other = absurd (cc)
nor false y one other = other

pub cut_bytes : (f : ℕ → Bool) (c : ℕ) (xs : List ℕ) → list_all f xs ≡ true → IsCut f c xs
cut_bytes f c [] all = record { front = refl; none = refl; back = refl }
cut_bytes f c (b ∷ xs) all =
    let both = and_split (f b) (list_all f xs) all in
    let rest = cut_bytes f c xs both.1 in
    ⊎_elim
    (λ same.
    let stop = first_stop c b xs same in
    record { front = ap (list_all f) stop.0; none = ap (list_any (λ k. k == c)) stop.0; back = ap (list_all f) stop.1 ∙ both.1 })
    (λ other.
    let cut = first_cut c b xs other in
    record {
      front = ap (list_all f) cut.0 ∙ and_join (f b) _ both.0 rest.front;
      none = ap (list_any (λ k. k == c)) cut.0 ∙ nor (b == c) _ other rest.none;
      back = ap (list_all f) cut.1 ∙ rest.back;
    })
    (cases_Bool (b == c))

without : (c : ℕ) (f : ℕ → Bool) (xs : List ℕ) → list_all f xs ≡ true → list_any (λ k. k == c) xs ≡ false → list_all (λ k. f k && not (k == c)) xs ≡ true
without c f [] all none = refl
without c f (b ∷ xs) all none =
    let both = and_split (f b) (list_all f xs) all in
    let other = neither (b == c) (list_any (λ k. k == c) xs) none in
    and_join (f b && not (b == c)) _ (and_join (f b) (not (b == c)) both.0 (ap not other.0)) (without c f xs both.1 other.1)

-- ---- without spaces and tabs at the ends

by_ows : (t : Bool) (b : ℕ) (xs : List ℕ) → t ≡ false → cond t (skip_ows xs) (b ∷ xs) ≡ b ∷ xs
by_ows true b xs none = absurd (cc)
by_ows false b xs none = refl

skip_len : (xs : List ℕ) → length (skip_ows xs) ≤ length xs
skip_len [] = omega arith
skip_len (b ∷ xs) =
    let rest = skip_len xs in
    ⊎_elim
    (λ blank. subst (λ (t : Bool). length (cond t (skip_ows xs) (b ∷ xs)) ≤ suc (length xs)) (sym blank) (omega (arith, rest)))
    (λ other. subst (λ (t : Bool). length (cond t (skip_ows xs) (b ∷ xs)) ≤ suc (length xs)) (sym other) (omega arith))
    (cases_Bool (is_ows b))

skip_twice : (xs : List ℕ) → skip_ows (skip_ows xs) ≡ skip_ows xs
skip_twice [] = refl
skip_twice (b ∷ xs) =
    ⊎_elim
    (λ blank. subst (λ (t : Bool). skip_ows (cond t (skip_ows xs) (b ∷ xs)) ≡ cond t (skip_ows xs) (b ∷ xs)) (sym blank) (skip_twice xs))
    (λ other. subst (λ (t : Bool). skip_ows (cond t (skip_ows xs) (b ∷ xs)) ≡ cond t (skip_ows xs) (b ∷ xs)) (sym other) (by_ows (is_ows b) b xs other))
    (cases_Bool (is_ows b))

-- what is skipped stands in front
skipped : (xs : List ℕ) → (front : List ℕ) × (xs ≡ front ++ skip_ows xs)
skipped [] = ([], refl)
skipped (b ∷ xs) =
    let rest = skipped xs in
    ⊎_elim
    (λ blank. (b ∷ rest.0, subst (λ (t : Bool). b ∷ xs ≡ b ∷ (rest.0 ++ cond t (skip_ows xs) (b ∷ xs))) (sym blank) (ap (λ ys. b ∷ ys) rest.1)))
    (λ other. ([], subst (λ (t : Bool). b ∷ xs ≡ cond t (skip_ows xs) (b ∷ xs)) (sym other) refl))
    (cases_Bool (is_ows b))

trim_front_of : (xs : List ℕ) → (rest : List ℕ) × (xs ≡ trim_end xs ++ rest)
trim_front_of xs =
    let cut = skipped (reverse xs) in
    (reverse cut.0, sym (reverse-reverse xs) ∙ ap reverse cut.1 ∙ reverse-append cut.0 (skip_ows (reverse xs)))

trim_twice : (xs : List ℕ) → trim_end (trim_end xs) ≡ trim_end xs
trim_twice xs = ap (λ ys. reverse (skip_ows ys)) (reverse-reverse (skip_ows (reverse xs))) ∙ ap reverse (skip_twice (reverse xs))

first_clean : (b : ℕ) (xs : List ℕ) → skip_ows (b ∷ xs) ≡ b ∷ xs → is_ows b ≡ false
first_clean b xs clean =
    ⊎_elim
    (λ blank.
    let shorter : skip_ows xs ≡ b ∷ xs = subst (λ (t : Bool). cond t (skip_ows xs) (b ∷ xs) ≡ b ∷ xs) blank clean in
    absurd (let e = ap length shorter in omega (arith, e, skip_len xs)))
    (λ other. other)
    (cases_Bool (is_ows b))

-- the front of a text that begins with no blank begins with none
front_clean : (xs ys : List ℕ) → skip_ows (xs ++ ys) ≡ xs ++ ys → skip_ows xs ≡ xs
front_clean [] ys clean = refl
front_clean (b ∷ xs) ys clean = by_ows (is_ows b) b xs (first_clean b (xs ++ ys) clean)

-- no space or tab stands at an end
pub record IsClean (text : List ℕ) : Type 0 where
  pub front : skip_ows text ≡ text
  pub end : trim_end text ≡ text

trimmed_clean : (xs : List ℕ) → skip_ows xs ≡ xs → IsClean (trim_end xs)
trimmed_clean xs clean =
    let cut = trim_front_of xs in
    record { front = front_clean (trim_end xs) cut.0 (subst (λ (ys : List ℕ). skip_ows ys ≡ ys) cut.1 clean); end = trim_twice xs }

value_clean : (raw : List ℕ) → IsClean (trim_ows raw)
unfolding trim_ows
value_clean raw = trimmed_clean (skip_ows raw) (skip_twice raw)

-- the first value of a name is trimmed
pub first_value_clean : (name : List ℕ) (fields : List Field) → IsClean (first_in (values_of name (map name_and_value fields)))
first_value_clean name [] = record { front = refl; end = refl }
first_value_clean name (f ∷ fields) =
    let rest = filter (is_named name) (map name_and_value fields) in
    ⊎_elim
    (λ named.
    subst (λ (t : Bool). IsClean (first_in (map (λ (h : List ℕ × List ℕ). h.1) (cond t (name_and_value f ∷ rest) rest)))) (sym named) (value_clean f.raw))
    (λ other.
    subst (λ (t : Bool). IsClean (first_in (map (λ (h : List ℕ × List ℕ). h.1) (cond t (name_and_value f ∷ rest) rest)))) (sym other) (first_value_clean name fields))
    (cases_Bool (is_named name (name_and_value f)))

pub trimmed_test : (text : List ℕ) → IsClean text → is_trimmed text ≡ true
trimmed_test text clean =
    and_join (bytes_eq (skip_ows text) text) _ ((bytes_eq-Decides (skip_ows text) text).1 clean.front) ((bytes_eq-Decides (trim_end text) text).1 clean.end)

-- ---- media types

small_text : (b : ℕ) → (is_text_byte b && not (b == 59)) ≡ true → b < 128
small_text b test = let both = (and_split (is_text_byte b) (not (b == 59)) test).0 in below b both
  where
    below : (c : ℕ) → is_text_byte c ≡ true → c < 128
    below c t = grind (arith, nat_tests)

lower_media : (b : ℕ) → (is_text_byte b && not (b == 59)) ≡ true → is_media_byte (to_ascii_lowercase b) ≡ true
lower_media b test =
    implied (is_text_byte b && not (b == 59)) _
    (agree_below_at (λ k. not (is_text_byte k && not (k == 59)) || is_media_byte (to_ascii_lowercase k)) (λ _. true) 128 b refl (small_text b test)) test

all_lowered : (xs : List ℕ) → list_all (λ b. is_text_byte b && not (b == 59)) xs ≡ true → list_all is_media_byte (map to_ascii_lowercase xs) ≡ true
all_lowered [] all = refl
all_lowered (b ∷ xs) all =
    let both = and_split (is_text_byte b && not (b == 59)) (list_all (λ c. is_text_byte c && not (c == 59)) xs) all in
    and_join (is_media_byte (to_ascii_lowercase b)) _ (lower_media b both.0) (all_lowered xs both.1)

ows_kept : (b : ℕ) → is_ows (to_ascii_lowercase b) ≡ is_ows b
ows_kept b = both_ways (is_ows (to_ascii_lowercase b)) (is_ows b) (λ t. grind (arith, nat_tests)) (λ t. grind (arith, nat_tests))

map_cond : (t : Bool) (xs ys : List ℕ) → cond t (map to_ascii_lowercase xs) (map to_ascii_lowercase ys) ≡ map to_ascii_lowercase (cond t xs ys)
map_cond true xs ys = refl
map_cond false xs ys = refl

skip_lowered : (xs : List ℕ) → skip_ows (map to_ascii_lowercase xs) ≡ map to_ascii_lowercase (skip_ows xs)
skip_lowered [] = refl
skip_lowered (b ∷ xs) =
    (λ i. cond (ows_kept b i) (skip_lowered xs i) (to_ascii_lowercase b ∷ map to_ascii_lowercase xs)) ∙ map_cond (is_ows b) (skip_ows xs) (b ∷ xs)

reverse_lowered : (xs : List ℕ) → reverse (map to_ascii_lowercase xs) ≡ map to_ascii_lowercase (reverse xs)
reverse_lowered [] = refl
reverse_lowered (b ∷ xs) =
    reverse-append (to_ascii_lowercase b ∷ []) (map to_ascii_lowercase xs) ∙ ap (λ ys. ys ++ to_ascii_lowercase b ∷ []) (reverse_lowered xs)
    ∙ sym (map-append to_ascii_lowercase (reverse xs) (b ∷ [])) ∙ ap (map to_ascii_lowercase) (sym (reverse-append (b ∷ []) xs))

lowered_clean : (xs : List ℕ) → IsClean xs → IsClean (map to_ascii_lowercase xs)
lowered_clean xs clean = record {
  front = skip_lowered xs ∙ ap (map to_ascii_lowercase) clean.front;
  end = ap (λ ys. reverse (skip_ows ys)) (reverse_lowered xs) ∙ ap reverse (skip_lowered (reverse xs)) ∙ reverse_lowered (skip_ows (reverse xs)) ∙ ap (map to_ascii_lowercase) clean.end;
}

front_all : (f : ℕ → Bool) (xs ys : List ℕ) → list_all f (xs ++ ys) ≡ true → list_all f xs ≡ true
front_all f xs ys all = (and_split (list_all f xs) (list_all f ys) (sym (list_all-append f xs ys) ∙ all)).0

-- the media type of a value is one
pub media_is_media : (value : List ℕ) → list_all is_text_byte value ≡ true → IsClean value → is_media (media_in value) ≡ true
media_is_media value text clean =
    let front = before_first (λ b. b == 59) value in
    let cut = cut_bytes is_text_byte 59 value text in
    let good = without 59 is_text_byte front cut.front cut.none in
    let trimmed = trim_front_of front in
    let bytes = front_all (λ b. is_text_byte b && not (b == 59)) (trim_end front) trimmed.0 (ap (list_all (λ b. is_text_byte b && not (b == 59))) (sym trimmed.1) ∙ good) in
    let begins : skip_ows front ≡ front
    = front_clean front (drop (position_or_len (λ b. b == 59) value) value)
    (subst (λ (ys : List ℕ). skip_ows ys ≡ ys) (sym (take-append-drop (position_or_len (λ b. b == 59) value) value)) clean.front) in
    and_join (list_all is_media_byte (media_in value)) _ (all_lowered (trim_end front) bytes)
    (trimmed_test (media_in value) (lowered_clean (trim_end front) (trimmed_clean front begins)))
