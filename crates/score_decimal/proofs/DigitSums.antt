-- The number of digits that stand behind others.
use Rattle.std.proofs.Common.{◌≡◌, ℕ, suc, ◌+◌, ◌*◌, ◌^◌, true, List, [], ◌∷◌, ◌++◌, length, take, drop, arith, sym, ap, ◌∙◌, refl, ◌==◌}
use Rattle.std.specs.List.{list_all}
use Rattle.std.specs.Char.{digit_value}
use Rattle.std.specs.Str.Parse.{digits_value, digits_value_after}
use Rattle.std.proofs.lemmas.List.{take-append-drop}
use Rattle.std.proofs.lemmas.Bool.Decides.{nat_tests}
use Rattle.std.proofs.Math.Nat.{pow-suc}
use Rattle.lti_outside.proofs.BoolLemmas.{and_split}

-- digits that follow a number count it up by their places
pub value_after : (n : ℕ) (cs : List ℕ) → digits_value_after 10 n cs ≡ n * 10 ^ length cs + digits_value 10 cs
value_after n [] = omega arith
value_after n (c ∷ cs) =
    let all : digits_value_after 10 n (c ∷ cs) ≡ (n * 10 + digit_value c) * 10 ^ length cs + digits_value 10 cs = value_after (n * 10 + digit_value c) cs in
    let own : digits_value 10 (c ∷ cs) ≡ (0 * 10 + digit_value c) * 10 ^ length cs + digits_value 10 cs = value_after (0 * 10 + digit_value c) cs in
    let turn : n * 10 ^ suc (length cs) ≡ n * (10 ^ length cs * 10) = ap (λ p. n * p) (pow-suc 10 (length cs)) in
    omega (arith, all, own, turn)

pub after_append : (n : ℕ) (xs ys : List ℕ) → digits_value_after 10 n (xs ++ ys) ≡ digits_value_after 10 (digits_value_after 10 n xs) ys
after_append n [] ys = refl
after_append n (x ∷ xs) ys = after_append (n * 10 + digit_value x) xs ys

pub value_append : (xs ys : List ℕ) → digits_value 10 (xs ++ ys) ≡ digits_value 10 xs * 10 ^ length ys + digits_value 10 ys
value_append xs ys = after_append 0 xs ys ∙ value_after (digits_value 10 xs) ys

-- the number of digits cut in two
pub value_cut : (i : ℕ) (cs : List ℕ) → digits_value 10 cs ≡ digits_value 10 (take i cs) * 10 ^ length (drop i cs) + digits_value 10 (drop i cs)
value_cut i cs = sym (ap (digits_value 10) (take-append-drop i cs)) ∙ value_append (take i cs) (drop i cs)

pub zeros_value : (cs : List ℕ) → list_all (λ b. b == 48) cs ≡ true → digits_value 10 cs ≡ 0
zeros_value [] all = refl
zeros_value (c ∷ cs) all =
    let both = and_split (c == 48) (list_all (λ b. b == 48) cs) all in
    let is : c ≡ 48 = grind (arith, nat_tests) in
    let worth : digit_value c ≡ 0 = ap digit_value is in
    let after : digits_value 10 (c ∷ cs) ≡ (0 * 10 + digit_value c) * 10 ^ length cs + digits_value 10 cs = value_after (0 * 10 + digit_value c) cs in
    let rest = zeros_value cs both.1 in
    let none : (0 * 10 + digit_value c) * 10 ^ length cs ≡ 0 = ap (λ d. (0 * 10 + d) * 10 ^ length cs) worth ∙ omega arith in
    omega (arith, after, rest, none)
