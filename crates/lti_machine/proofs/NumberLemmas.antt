-- Numbers in 16 bytes, as two numbers in 8.
use Rattle.std.proofs.Common.{◌≡◌, ℕ, zero, suc, ◌+◌, ◌*◌, ◌/◌, ◌%◌, ◌^◌, ◌<◌, List, [], ◌∷◌, ◌++◌, length, take, drop, get_or, refl, sym, ap, ◌∙◌, arith, rules}
use Rattle.std.proofs.Math.Nat.{div-div-eq-div-mul}
use Rattle.std.proofs.lemmas.Nat.{be_bytes_8, from_be_bytes-to_be_bytes_4, from_be_bytes-to_be_bytes_8}
use Rattle.std.proofs.lemmas.List.{take-append-drop, take_at, drop_at}
use Rattle.std.specs.Int.{w32, w64, w128, to_be_bytes, from_be_bytes}

pub to_halves : (n : ℕ) → to_be_bytes w128 n ≡ to_be_bytes w64 (n / 18446744073709551616) ++ to_be_bytes w64 (n % 18446744073709551616)
to_halves n =
    let at_15 : n / 1329227995784915872903807060280344576 % 256 ≡ n / 18446744073709551616 / 72057594037927936 % 256 = ap (λ m. m % 256) (sym (div-div-eq-div-mul n 18446744073709551616 72057594037927936)) in
    let at_14 : n / 5192296858534827628530496329220096 % 256 ≡ n / 18446744073709551616 / 281474976710656 % 256 = ap (λ m. m % 256) (sym (div-div-eq-div-mul n 18446744073709551616 281474976710656)) in
    let at_13 : n / 20282409603651670423947251286016 % 256 ≡ n / 18446744073709551616 / 1099511627776 % 256 = ap (λ m. m % 256) (sym (div-div-eq-div-mul n 18446744073709551616 1099511627776)) in
    let at_12 : n / 79228162514264337593543950336 % 256 ≡ n / 18446744073709551616 / 4294967296 % 256 = ap (λ m. m % 256) (sym (div-div-eq-div-mul n 18446744073709551616 4294967296)) in
    let at_11 : n / 309485009821345068724781056 % 256 ≡ n / 18446744073709551616 / 16777216 % 256 = ap (λ m. m % 256) (sym (div-div-eq-div-mul n 18446744073709551616 16777216)) in
    let at_10 : n / 1208925819614629174706176 % 256 ≡ n / 18446744073709551616 / 65536 % 256 = ap (λ m. m % 256) (sym (div-div-eq-div-mul n 18446744073709551616 65536)) in
    let at_9 : n / 4722366482869645213696 % 256 ≡ n / 18446744073709551616 / 256 % 256 = ap (λ m. m % 256) (sym (div-div-eq-div-mul n 18446744073709551616 256)) in
    let at_8 : n / 18446744073709551616 % 256 ≡ n / 18446744073709551616 % 256 = refl in
    let at_7 : n / 72057594037927936 % 256 ≡ n % 18446744073709551616 / 72057594037927936 % 256 = omega arith in
    let at_6 : n / 281474976710656 % 256 ≡ n % 18446744073709551616 / 281474976710656 % 256 = omega arith in
    let at_5 : n / 1099511627776 % 256 ≡ n % 18446744073709551616 / 1099511627776 % 256 = omega arith in
    let at_4 : n / 4294967296 % 256 ≡ n % 18446744073709551616 / 4294967296 % 256 = omega arith in
    let at_3 : n / 16777216 % 256 ≡ n % 18446744073709551616 / 16777216 % 256 = omega arith in
    let at_2 : n / 65536 % 256 ≡ n % 18446744073709551616 / 65536 % 256 = omega arith in
    let at_1 : n / 256 % 256 ≡ n % 18446744073709551616 / 256 % 256 = omega arith in
    let at_0 : n % 256 ≡ n % 18446744073709551616 % 256 = omega arith in
    λ i. at_15 i ∷ at_14 i ∷ at_13 i ∷ at_12 i ∷ at_11 i ∷ at_10 i ∷ at_9 i ∷ at_8 i ∷ at_7 i ∷ at_6 i ∷ at_5 i ∷ at_4 i ∷ at_3 i ∷ at_2 i ∷ at_1 i ∷ at_0 i ∷ []

sum_16 : (a b c d e f g h p q r s t u v w : ℕ)
    → from_be_bytes w128 (a ∷ b ∷ c ∷ d ∷ e ∷ f ∷ g ∷ h ∷ p ∷ q ∷ r ∷ s ∷ t ∷ u ∷ v ∷ w ∷ [])
    ≡ from_be_bytes w64 (a ∷ b ∷ c ∷ d ∷ e ∷ f ∷ g ∷ h ∷ []) * 18446744073709551616 + from_be_bytes w64 (p ∷ q ∷ r ∷ s ∷ t ∷ u ∷ v ∷ w ∷ [])
sum_16 a b c d e f g h p q r s t u v w = omega arith

-- what 16 bytes spell, by what their halves spell
pub from_halves : (bs : List ℕ) → length bs ≡ 16 → from_be_bytes w128 bs ≡ from_be_bytes w64 (take 8 bs) * 18446744073709551616 + from_be_bytes w64 (drop 8 bs)
from_halves (a ∷ b ∷ c ∷ d ∷ e ∷ f ∷ g ∷ h ∷ p ∷ q ∷ r ∷ s ∷ t ∷ u ∷ v ∷ w ∷ []) len = sum_16 a b c d e f g h p q r s t u v w
from_halves _ len = absurd (omega (arith, len))

take_small : (k : ℕ) (bs : List ℕ) → ((i : ℕ) → get_or bs i 0 < 256) → (i : ℕ) → get_or (take k bs) i 0 < 256
take_small zero bs small i = omega arith
take_small (suc k) [] small i = omega arith
take_small (suc k) (b ∷ bs) small zero = small 0
take_small (suc k) (b ∷ bs) small (suc i) = take_small k bs (λ j. small (suc j)) i

drop_small : (k : ℕ) (bs : List ℕ) → ((i : ℕ) → get_or bs i 0 < 256) → (i : ℕ) → get_or (drop k bs) i 0 < 256
drop_small zero bs small i = small i
drop_small (suc k) [] small i = omega arith
drop_small (suc k) (b ∷ bs) small i = drop_small k bs (λ j. small (suc j)) i

below : (bs : List ℕ) → length bs ≡ 8 → ((i : ℕ) → get_or bs i 0 < 256) → from_be_bytes w64 bs < 18446744073709551616
below (a ∷ b ∷ c ∷ d ∷ e ∷ f ∷ g ∷ h ∷ []) len small = omega (arith, small 0, small 1, small 2, small 3, small 4, small 5, small 6, small 7)
below _ len small = absurd (omega (arith, len))

-- the number that 16 bytes spell is spelled by them
pub be_bytes_16 : (bs : List ℕ) (n : ℕ) → length bs ≡ 16 → ((i : ℕ) → get_or bs i 0 < 256) → n ≡ from_be_bytes w128 bs → to_be_bytes w128 n ≡ bs
be_bytes_16 bs n len small is =
    let front : length (take 8 bs) ≡ 8 = search rules in
    let back : length (drop 8 bs) ≡ 8 = search rules in
    let low = below (drop 8 bs) back (drop_small 8 bs small) in
    let sum = is ∙ from_halves bs len in
    let high_is : n / 18446744073709551616 ≡ from_be_bytes w64 (take 8 bs) = omega (arith, sum, low) in
    let low_is : n % 18446744073709551616 ≡ from_be_bytes w64 (drop 8 bs) = omega (arith, sum, low) in
    to_halves n
    ∙ ap (λ (l : List ℕ). l ++ to_be_bytes w64 (n % 18446744073709551616)) (be_bytes_8 (take 8 bs) (n / 18446744073709551616) front (take_small 8 bs small) high_is)
    ∙ ap (λ (l : List ℕ). take 8 bs ++ l) (be_bytes_8 (drop 8 bs) (n % 18446744073709551616) back (drop_small 8 bs small) low_is)
    ∙ take-append-drop 8 bs

-- equal lists with fronts of one length have equal fronts and equal rests
pub same_front : (a b x y : List ℕ) → length a ≡ length b → a ++ x ≡ b ++ y → (a ≡ b) × (x ≡ y)
same_front a b x y len same = (
  sym (take_at a x (length a) refl) ∙ ap (λ (l : List ℕ). take (length a) l) same ∙ take_at b y (length a) (sym len),
  sym (drop_at a x (length a) refl) ∙ ap (λ (l : List ℕ). drop (length a) l) same ∙ drop_at b y (length a) (sym len),
)

-- 4 and 8 bytes spell one number
pub length_once : (a b : ℕ) → a < 2 ^ 32 → b < 2 ^ 32 → to_be_bytes w32 a ≡ to_be_bytes w32 b → a ≡ b
length_once a b small small' same = sym (from_be_bytes-to_be_bytes_4 a small) ∙ ap (λ (l : List ℕ). from_be_bytes w32 l) same ∙ from_be_bytes-to_be_bytes_4 b small'

pub number_once : (a b : ℕ) → a < 2 ^ 64 → b < 2 ^ 64 → to_be_bytes w64 a ≡ to_be_bytes w64 b → a ≡ b
number_once a b small small' same = sym (from_be_bytes-to_be_bytes_8 a small) ∙ ap (λ (l : List ℕ). from_be_bytes w64 l) same ∙ from_be_bytes-to_be_bytes_8 b small'

-- and so do 16
pub great_number_once : (a b : ℕ) → a < 2 ^ 128 → b < 2 ^ 128 → to_be_bytes w128 a ≡ to_be_bytes w128 b → a ≡ b
great_number_once a b small small' same =
    let halves = same_front (to_be_bytes w64 (a / 18446744073709551616)) (to_be_bytes w64 (b / 18446744073709551616)) (to_be_bytes w64 (a % 18446744073709551616)) (to_be_bytes w64 (b % 18446744073709551616)) refl
    (sym (to_halves a) ∙ same ∙ to_halves b) in
    let high = number_once (a / 18446744073709551616) (b / 18446744073709551616) (omega (arith, small)) (omega (arith, small')) halves.0 in
    let low = number_once (a % 18446744073709551616) (b % 18446744073709551616) (omega arith) (omega arith) halves.1 in
    omega (arith, high, low)
