-- Allowed characters are UTF-8.
use Rattle.std.proofs.Common.{◌≡◌, ℕ, zero, suc, ◌+◌, ◌-◌, ◌*◌, ◌/◌, ◌%◌, ◌<◌, ◌≤◌, ◌⊎◌, inl, inr, ⊎_elim, true, List, [], ◌∷◌, ◌++◌, length, take, length-append, sym, ap, ap₂, ◌∙◌, subst, arith, lt-ltb, le-ltb}
use Rattle.std.specs.Char.{IsScalar, encode_utf8}
use Rattle.std.specs.Str.{IsUtf8}
use Rattle.std.proofs.lemmas.Bool.{cond-true, cond-false}
use Rattle.std.proofs.lemmas.Bool.Decides.{nat_tests}
use Rattle.std.proofs.lemmas.Str.{IsUtf8-encode, IsUtf8-append, IsUtf8-nil, encode_ascii}
use Rattle.std.specs.List.{list_all}
use Rattle.std.proofs.lemmas.List.{take_at}
use Rattle.lti_outside.proofs.BoolLemmas.{and_split}
use Rattle.pox_outcomes.specs.Texts.{is_gap, IsGap}
use Rattle.pox_outcomes.specs.Characters.{is_within, IsRow, row_at, rows, IsCharacter}

pub encode_two : (c : ℕ) → 0x80 ≤ c → c < 0x800 → encode_utf8 c ≡ (192 + c / 64) ∷ (128 + c % 64) ∷ []
unfolding encode_utf8
encode_two c low high = cond-false _ _ _ (le-ltb c 128 low) ∙ cond-true _ _ _ (lt-ltb c 2048 high)

pub encode_three : (c : ℕ) → 0x800 ≤ c → c < 0x1_0000 → encode_utf8 c ≡ (224 + c / 4096) ∷ (128 + (c / 64) % 64) ∷ (128 + c % 64) ∷ []
unfolding encode_utf8
encode_three c low high =
    cond-false _ _ _ (le-ltb c 128 (omega arith)) ∙ cond-false _ _ _ (le-ltb c 2048 low) ∙ cond-true _ _ _ (lt-ltb c 65536 high)

pub encode_four : (c : ℕ) → 0x1_0000 ≤ c → encode_utf8 c ≡ (240 + c / 262144) ∷ (128 + (c / 4096) % 64) ∷ (128 + (c / 64) % 64) ∷ (128 + c % 64) ∷ []
unfolding encode_utf8
encode_four c low =
    cond-false _ _ _ (le-ltb c 128 (omega arith)) ∙ cond-false _ _ _ (le-ltb c 2048 (omega arith)) ∙ cond-false _ _ _ (le-ltb c 65536 low)

low_scalar : (c : ℕ) → c < 0xD800 → IsScalar c
low_scalar c h = grind (arith, nat_tests)

high_scalar : (c : ℕ) → 0xE000 ≤ c → c ≤ 0x10FFFF → IsScalar c
high_scalar c l h = grind (arith, nat_tests)

bounds : (lo hi b : ℕ) → is_within (lo, hi) b ≡ true → (lo ≤ b) × (b ≤ hi)
bounds lo hi b is = (grind (arith, nat_tests), grind (arith, nat_tests))

utf8_one : (b : ℕ) → b < 128 → IsUtf8 (b ∷ [])
utf8_one b small = subst IsUtf8 (encode_ascii b small) (IsUtf8-encode b (low_scalar b (omega arith)))

utf8_two : (a b : ℕ) → 194 ≤ a → a ≤ 223 → 128 ≤ b → b ≤ 191 → IsUtf8 (a ∷ b ∷ [])
utf8_two a b la ha lb hb =
    let c = (a - 192) * 64 + (b - 128) in
    let e0 : 192 + c / 64 ≡ a = omega arith in
    let e1 : 128 + c % 64 ≡ b = omega arith in
    let whole : encode_utf8 c ≡ a ∷ b ∷ [] = encode_two c (omega arith) (omega arith) ∙ ap₂ (λ x y. x ∷ y ∷ []) e0 e1 in
    subst IsUtf8 whole (IsUtf8-encode c (low_scalar c (omega arith)))

utf8_three : (a b d : ℕ) → 224 ≤ a → a ≤ 239 → 128 ≤ b → b ≤ 191 → 128 ≤ d → d ≤ 191 → 0x800 ≤ (a - 224) * 4096 + (b - 128) * 64 + (d - 128)
    → IsScalar ((a - 224) * 4096 + (b - 128) * 64 + (d - 128)) → IsUtf8 (a ∷ b ∷ d ∷ [])
utf8_three a b d la ha lb hb ld hd least scalar =
    let c = (a - 224) * 4096 + (b - 128) * 64 + (d - 128) in
    let e0 : 224 + c / 4096 ≡ a = omega arith in
    let e1 : 128 + (c / 64) % 64 ≡ b = omega arith in
    let e2 : 128 + c % 64 ≡ d = omega arith in
    let whole : encode_utf8 c ≡ a ∷ b ∷ d ∷ [] = encode_three c least (omega arith) ∙ ap₂ (λ x y. x ∷ y ∷ (128 + c % 64) ∷ []) e0 e1 ∙ ap (λ z. a ∷ b ∷ z ∷ []) e2 in
    subst IsUtf8 whole (IsUtf8-encode c scalar)

utf8_four : (a b d f : ℕ) → 240 ≤ a → a ≤ 244 → 128 ≤ b → b ≤ 191 → 128 ≤ d → d ≤ 191 → 128 ≤ f → f ≤ 191
    → 0x10000 ≤ (a - 240) * 262144 + (b - 128) * 4096 + (d - 128) * 64 + (f - 128) → (a - 240) * 262144 + (b - 128) * 4096 + (d - 128) * 64 + (f - 128) ≤ 0x10FFFF → IsUtf8 (a ∷ b ∷ d ∷ f ∷ [])
utf8_four a b d f la ha lb hb ld hd lf hf least most =
    let c = (a - 240) * 262144 + (b - 128) * 4096 + (d - 128) * 64 + (f - 128) in
    let e0 : 240 + c / 262144 ≡ a = omega arith in
    let e1 : 128 + (c / 4096) % 64 ≡ b = omega arith in
    let e2 : 128 + (c / 64) % 64 ≡ d = omega arith in
    let e3 : 128 + c % 64 ≡ f = omega arith in
    let whole : encode_utf8 c ≡ a ∷ b ∷ d ∷ f ∷ [] =
    encode_four c least ∙ ap₂ (λ x y. x ∷ y ∷ (128 + (c / 64) % 64) ∷ (128 + c % 64) ∷ []) e0 e1 ∙ ap₂ (λ x y. a ∷ b ∷ x ∷ y ∷ []) e2 e3 in
    subst IsUtf8 whole (IsUtf8-encode c (high_scalar c (omega arith) most))

-- the bytes of a row, one by one
one_of_row : (r : ℕ × ℕ) (x : List ℕ) → IsRow (r ∷ []) x → (a : ℕ) × (x ≡ a ∷ []) × (is_within r a ≡ true)
one_of_row r x h = (h.first.0, h.are ∙ ap (λ t. t ++ h.back) h.first.1 ∙ ap (λ t. h.first.0 ∷ t) h.second, h.first.2)

two_of_row : (r q : ℕ × ℕ) (x : List ℕ) → IsRow (r ∷ q ∷ []) x → (a b : ℕ) × (x ≡ a ∷ b ∷ []) × (is_within r a ≡ true) × (is_within q b ≡ true)
two_of_row r q x h =
    let rest = one_of_row q h.back h.second in
    (h.first.0, rest.0, h.are ∙ ap (λ t. t ++ h.back) h.first.1 ∙ ap (λ t. h.first.0 ∷ t) rest.1, h.first.2, rest.2)

three_of_row : (r q p : ℕ × ℕ) (x : List ℕ) → IsRow (r ∷ q ∷ p ∷ []) x → (a b d : ℕ) × (x ≡ a ∷ b ∷ d ∷ []) × (is_within r a ≡ true) × (is_within q b ≡ true) × (is_within p d ≡ true)
three_of_row r q p x h =
    let rest = two_of_row q p h.back h.second in
    (h.first.0, rest.0, rest.1, h.are ∙ ap (λ t. t ++ h.back) h.first.1 ∙ ap (λ t. h.first.0 ∷ t) rest.2, h.first.2, rest.3, rest.4)

four_of_row : (r q p o : ℕ × ℕ) (x : List ℕ) → IsRow (r ∷ q ∷ p ∷ o ∷ []) x
    → (a b d f : ℕ) × (x ≡ a ∷ b ∷ d ∷ f ∷ []) × (is_within r a ≡ true) × (is_within q b ≡ true) × (is_within p d ≡ true) × (is_within o f ≡ true)
four_of_row r q p o x h =
    let rest = three_of_row q p o h.back h.second in
    (h.first.0, rest.0, rest.1, rest.2, h.are ∙ ap (λ t. t ++ h.back) h.first.1 ∙ ap (λ t. h.first.0 ∷ t) rest.3, h.first.2, rest.4, rest.5, rest.6)

row_one : (lo hi : ℕ) (x : List ℕ) → hi < 128 → IsRow ((lo, hi) ∷ []) x → IsUtf8 x
row_one lo hi x small h =
    let r = one_of_row (lo, hi) x h in
    let a = bounds lo hi r.0 r.2 in
    let most = a.1 in
    subst IsUtf8 (sym r.1) (utf8_one r.0 (omega arith))

row_three : (l0 h0 l1 h1 l2 h2 : ℕ) (x : List ℕ) → 224 ≤ l0 → h0 ≤ 239 → 128 ≤ l1 → h1 ≤ 191 → 128 ≤ l2 → h2 ≤ 191 → 0x800 ≤ (l0 - 224) * 4096 + (l1 - 128) * 64
    → ((h0 - 224) * 4096 + (h1 - 128) * 64 + 63 < 0xD800) ⊎ (0xE000 ≤ (l0 - 224) * 4096 + (l1 - 128) * 64) → IsRow ((l0, h0) ∷ (l1, h1) ∷ (l2, h2) ∷ []) x → IsUtf8 x
row_three l0 h0 l1 h1 l2 h2 x a b d f g k least side h =
    let r = three_of_row (l0, h0) (l1, h1) (l2, h2) x h in
    let one = bounds l0 h0 r.0 r.4 in
    let two = bounds l1 h1 r.1 r.5 in
    let three = bounds l2 h2 r.2 r.6 in
    let low0 = one.0 in let high0 = one.1 in let low1 = two.0 in let high1 = two.1 in let low2 = three.0 in let high2 = three.1 in
    let c = (r.0 - 224) * 4096 + (r.1 - 128) * 64 + (r.2 - 128) in
    let scalar : IsScalar c = ⊎_elim
    (λ (s : (h0 - 224) * 4096 + (h1 - 128) * 64 + 63 < 0xD800). low_scalar c (omega arith))
    (λ (s : 0xE000 ≤ (l0 - 224) * 4096 + (l1 - 128) * 64). high_scalar c (omega arith) (omega arith)) side in
    subst IsUtf8 (sym r.3) (utf8_three r.0 r.1 r.2 (omega arith) (omega arith) (omega arith) (omega arith) (omega arith) (omega arith) (omega arith) scalar)

row_four : (l0 h0 l1 h1 : ℕ) (x : List ℕ) → 240 ≤ l0 → h0 ≤ 244 → 128 ≤ l1 → h1 ≤ 191 → 0x10000 ≤ (l0 - 240) * 262144 + (l1 - 128) * 4096
    → (h0 - 240) * 262144 + (h1 - 128) * 4096 + 4095 ≤ 0x10FFFF → IsRow ((l0, h0) ∷ (l1, h1) ∷ (128, 191) ∷ (128, 191) ∷ []) x → IsUtf8 x
row_four l0 h0 l1 h1 x a b d f least most h =
    let r = four_of_row (l0, h0) (l1, h1) (128, 191) (128, 191) x h in
    let one = bounds l0 h0 r.0 r.5 in
    let two = bounds l1 h1 r.1 r.6 in
    let three = bounds 128 191 r.2 r.7 in
    let four = bounds 128 191 r.3 r.8 in
    let low0 = one.0 in let high0 = one.1 in let low1 = two.0 in let high1 = two.1 in let low2 = three.0 in let high2 = three.1 in let low3 = four.0 in let high3 = four.1 in
    subst IsUtf8 (sym r.4) (utf8_four r.0 r.1 r.2 r.3 (omega arith) (omega arith) (omega arith) (omega arith) (omega arith) (omega arith) (omega arith) (omega arith) (omega arith) (omega arith))

row_two : (x : List ℕ) → IsRow ((0xC2, 0xDF) ∷ (128, 191) ∷ []) x → IsUtf8 x
row_two x h =
    let r = two_of_row (0xC2, 0xDF) (128, 191) x h in
    let one = bounds 0xC2 0xDF r.0 r.3 in
    let two = bounds 128 191 r.1 r.4 in
    subst IsUtf8 (sym r.2) (utf8_two r.0 r.1 one.0 one.1 two.0 two.1)

at_place : (place : ℕ) (x : List ℕ) → place < 13 → IsRow (row_at rows place) x → IsUtf8 x
at_place zero x within is = row_one 0x20 0x7F x (omega arith) is
at_place (suc zero) x within is = row_one 0x09 0x0A x (omega arith) is
at_place (suc (suc zero)) x within is = row_one 0x0D 0x0D x (omega arith) is
at_place (suc (suc (suc zero))) x within is = row_two x is
at_place (suc (suc (suc (suc zero)))) x within is = row_three 0xE0 0xE0 0xA0 0xBF 0x80 0xBF x (omega arith) (omega arith) (omega arith) (omega arith) (omega arith) (omega arith) (omega arith) (inl (omega arith)) is
at_place (suc (suc (suc (suc (suc zero))))) x within is = row_three 0xE1 0xEC 0x80 0xBF 0x80 0xBF x (omega arith) (omega arith) (omega arith) (omega arith) (omega arith) (omega arith) (omega arith) (inl (omega arith)) is
at_place (suc (suc (suc (suc (suc (suc zero)))))) x within is = row_three 0xED 0xED 0x80 0x9F 0x80 0xBF x (omega arith) (omega arith) (omega arith) (omega arith) (omega arith) (omega arith) (omega arith) (inl (omega arith)) is
at_place (suc (suc (suc (suc (suc (suc (suc zero))))))) x within is = row_three 0xEE 0xEE 0x80 0xBF 0x80 0xBF x (omega arith) (omega arith) (omega arith) (omega arith) (omega arith) (omega arith) (omega arith) (inr (omega arith)) is
at_place (suc (suc (suc (suc (suc (suc (suc (suc zero)))))))) x within is = row_three 0xEF 0xEF 0x80 0xBE 0x80 0xBF x (omega arith) (omega arith) (omega arith) (omega arith) (omega arith) (omega arith) (omega arith) (inr (omega arith)) is
at_place (suc (suc (suc (suc (suc (suc (suc (suc (suc zero))))))))) x within is = row_three 0xEF 0xEF 0xBF 0xBF 0x80 0xBD x (omega arith) (omega arith) (omega arith) (omega arith) (omega arith) (omega arith) (omega arith) (inr (omega arith)) is
at_place (suc (suc (suc (suc (suc (suc (suc (suc (suc (suc zero)))))))))) x within is = row_four 0xF0 0xF0 0x90 0xBF x (omega arith) (omega arith) (omega arith) (omega arith) (omega arith) (omega arith) is
at_place (suc (suc (suc (suc (suc (suc (suc (suc (suc (suc (suc zero))))))))))) x within is = row_four 0xF1 0xF3 0x80 0xBF x (omega arith) (omega arith) (omega arith) (omega arith) (omega arith) (omega arith) is
at_place (suc (suc (suc (suc (suc (suc (suc (suc (suc (suc (suc (suc zero)))))))))))) x within is = row_four 0xF4 0xF4 0x80 0x8F x (omega arith) (omega arith) (omega arith) (omega arith) (omega arith) (omega arith) is
at_place (suc (suc (suc (suc (suc (suc (suc (suc (suc (suc (suc (suc (suc place))))))))))))) x within is = absurd (omega arith)

-- an allowed character is UTF-8
pub utf8_character : (x : List ℕ) → IsCharacter x → IsUtf8 x
utf8_character x is = at_place is.0 x is.1 is.2

-- a gap is UTF-8
pub utf8_gap : (gap : List ℕ) → IsGap gap → IsUtf8 gap
utf8_gap [] is = IsUtf8-nil
utf8_gap (b ∷ gap) is =
    let both = and_split (is_gap b) (list_all is_gap gap) is in
    let small : b < 128 = grind (arith, nat_tests) in
    IsUtf8-append (b ∷ []) gap (utf8_one b small) (utf8_gap gap both.1)

-- the front of some bytes, by what is left
pub front_taken : (bytes front rest : List ℕ) → bytes ≡ front ++ rest → take (length bytes - length rest) bytes ≡ front
front_taken bytes front rest are =
    let long = ap length are ∙ length-append front rest in
    let count : length front ≡ length bytes - length rest = omega (arith, long) in
    ap (take (length bytes - length rest)) are ∙ take_at front rest (length bytes - length rest) count

pub rest_fits : (bytes front rest : List ℕ) → bytes ≡ front ++ rest → length rest ≤ length bytes
rest_fits bytes front rest are =
    let long = ap length are ∙ length-append front rest in
    omega (arith, long)
