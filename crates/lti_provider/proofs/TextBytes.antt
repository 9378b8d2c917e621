-- Each byte of a text is a byte.
use Rattle.std.proofs.Common.{◌≡◌, ◌<◌, ◌+◌, ◌/◌, ℕ, Bool, true, false, List, [], ◌∷◌, All, IsUtf8, refl, subst, arith, ltb, ⊎_elim}
use Rattle.std.proofs.lemmas.List.Elements.{All-nil, All-cons, All-append}
use Rattle.std.proofs.lemmas.Bool.{and_parts, ltb-true}
use mathlib.Core.Bool.{cond}
use lib.Utf8.{scalar, scalars, scalar_cases, encode, encodes, next}

abbrev IsByte : ℕ → Type 0
IsByte b = b < 256

one : (b : ℕ) (bs : List ℕ) → b < 256 → All IsByte bs → All IsByte (b ∷ bs)
one b bs small rest = All-cons IsByte b bs small rest

none : All IsByte []
none = All-nil IsByte

later : (bits : ℕ) → next bits < 256
later bits = omega arith

-- one to four bytes of a character
spelled : (x y z : Bool) (c : ℕ) → (x ≡ true → c < 128) → (y ≡ true → c < 2048) → (z ≡ true → c < 65536) → c < 1114112
    → All IsByte (cond x (c ∷ []) (cond y ((192 + c / 64) ∷ next c ∷ []) (cond z ((224 + c / 4096) ∷ next (c / 64) ∷ next c ∷ []) ((240 + c / 262144) ∷ next (c / 4096) ∷ next (c / 64) ∷ next c ∷ []))))
spelled true y z c a b d e = let f = a refl in one c [] (omega (arith, f)) none
spelled false true z c a b d e = let f = b refl in one (192 + c / 64) (next c ∷ []) (omega (arith, f)) (one (next c) [] (later c) none)
spelled false false true c a b d e =
    let f = d refl in
    one (224 + c / 4096) (next (c / 64) ∷ next c ∷ []) (omega (arith, f)) (one (next (c / 64)) (next c ∷ []) (later (c / 64)) (one (next c) [] (later c) none))
spelled false false false c a b d e =
    one (240 + c / 262144) (next (c / 4096) ∷ next (c / 64) ∷ next c ∷ []) (omega (arith, e))
    (one (next (c / 4096)) (next (c / 64) ∷ next c ∷ []) (later (c / 4096)) (one (next (c / 64)) (next c ∷ []) (later (c / 64)) (one (next c) [] (later c) none)))

encode_bytes : (c : ℕ) → scalar c ≡ true → All IsByte (encode c)
unfolding encode
encode_bytes c is =
    let top : c < 1114112 = ⊎_elim (λ h. omega (arith, h)) (λ h. h.1) (scalar_cases c is) in
    spelled (ltb c 128) (ltb c 2048) (ltb c 65536) c (ltb-true c 128) (ltb-true c 2048) (ltb-true c 65536) top

encodes_bytes : (cs : List ℕ) → scalars cs ≡ true → All IsByte (encodes cs)
encodes_bytes [] is = none
encodes_bytes (c ∷ cs) is =
    let both = and_parts (scalar c) (scalars cs) is in
    All-append IsByte (encode c) (encodes cs) (encode_bytes c both.0) (encodes_bytes cs both.1)

pub text_bytes : (bs : List ℕ) → IsUtf8 bs → All (λ b. b < 256) bs
text_bytes bs text = subst (All IsByte) text.1.1 (encodes_bytes text.0 text.1.0)
