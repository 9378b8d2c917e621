-- Numbers of references, digit by digit.
use Rattle.std.proofs.Common.{◌≡◌, ◌≢◌, ℕ, ◌+◌, ◌*◌, ◌<◌, ◌≤◌, ◌⊎◌, inl, inr, ⊎_elim, true, false, List, [], ◌∷◌, ◌++◌, length, append_assoc, refl, sym, ap, ◌∙◌, subst, arith, codes}
use Rattle.std.specs.Char.{digit_value}
use Rattle.std.specs.List.{list_all}
use Rattle.std.proofs.lemmas.Bool.{false≢true, cases_Bool, cases_lt}
use Rattle.std.proofs.lemmas.Bool.Decides.{nat_tests}
use Rattle.std.proofs.Math.Nat.{mul-le-mul_left}
use Rattle.lti_outside.proofs.BoolLemmas.{and_split}
use Rattle.pox_outcomes.specs.Language.{StopsAt, Reads}
use Rattle.pox_outcomes.specs.Markup.{BeginsOtherwise}
use Rattle.pox_outcomes.specs.Characters.{is_allowed}
use Rattle.pox_outcomes.specs.References.{is_digit, number_from, IsNumber, EndsNumber, GoesOn}
use Rattle.pox_outcomes.proofs.LanguageLemmas.{Leads, after_leads, no_cons}
use Rattle.pox_outcomes.proofs.RunLemmas.{run_once}

-- a number of some character
abbrev pub IsSome : ℕ → ℕ → List ℕ → Type 0
IsSome base value bytes = (code : ℕ) × IsNumber base value code bytes

-- a semicolon is no digit
semicolon : (base : ℕ) → base ≤ 16 → is_digit base 59 ≡ false
semicolon base most = grind (arith, nat_tests)

step_out : (base value digit code : ℕ) (digits x r s : List ℕ) → base ≤ 16 → is_digit base digit ≡ true → x ≡ digits ++ codes ";" → list_all (is_digit base) digits ≡ true
    → code ≡ number_from base value digits → is_allowed code ≡ true → x ++ r ≡ digit ∷ s → (y : List ℕ) × (x ≡ (digit ∷ []) ++ y) × IsSome base (value * base + digit_value digit) y
step_out base value digit code [] x r s most in_base are all spells allowed e =
    let head : 59 ∷ r ≡ digit ∷ s = ap (λ t. t ++ r) (sym are) ∙ e in
    let same : 59 ≡ digit = cc in
    absurd (false≢true (sym (semicolon base most) ∙ ap (is_digit base) same ∙ in_base))
step_out base value digit code (d ∷ digits) x r s most in_base are all spells allowed e =
    let head : d ∷ ((digits ++ codes ";") ++ r) ≡ digit ∷ s = ap (λ t. t ++ r) (sym are) ∙ e in
    let same : d ≡ digit = cc in
    let here : x ≡ digit ∷ (digits ++ codes ";") = are ∙ ap (λ b. b ∷ (digits ++ codes ";")) same in
    let goes : code ≡ number_from base (value * base + digit_value digit) digits = spells ∙ ap (λ b. number_from base (value * base + digit_value b) digits) same in
    (digits ++ codes ";", here, (code, record { digits = digits; are = refl; in_base = (and_split (is_digit base d) (list_all (is_digit base) digits) all).1; spells = goes; allowed = allowed }))

step_into : (base value digit code : ℕ) (y : List ℕ) → is_digit base digit ≡ true → IsNumber base (value * base + digit_value digit) code y → IsNumber base value code (digit ∷ y)
step_into base value digit code y in_base n = record {
  digits = digit ∷ n.digits;
  are = ap (λ t. digit ∷ t) n.are;
  in_base = rw (in_base, n.in_base) refl;
  spells = n.spells;
  allowed = n.allowed;
}

leads_digit : (base value digit : ℕ) (rest : List ℕ) → base ≤ 16 → is_digit base digit ≡ true → Leads (IsSome base value) (digit ∷ rest) (IsSome base (value * base + digit_value digit)) rest
leads_digit base value digit rest most in_base = after_leads (digit ∷ rest) (digit ∷ []) rest refl (record {
  into = λ y n. (n.0, step_into base value digit n.0 y in_base n.1);
  out = λ d r s n e. step_out base value digit n.0 n.1.digits d r s most in_base n.1.are n.1.in_base n.1.spells n.1.allowed e;
})

-- what was read of the number, and what is left
pub record Counts (base : ℕ) (bytes : List ℕ) (value : ℕ) (rest : List ℕ) : Type 0 where
  pub front : List ℕ
  pub are : bytes ≡ front ++ rest
  pub into : (code : ℕ) (y : List ℕ) → IsNumber base value code y → IsNumber base 0 code (front ++ y)
  pub stops : (n : ℕ) → StopsAt (IsSome base value) rest n → StopsAt (IsSome base 0) bytes n
  pub most : value ≤ 0x10FFFF

pub counts_more : (base value next : ℕ) (bytes rest others : List ℕ) → base ≤ 16 → GoesOn base value next rest others → Counts base bytes value rest → Counts base bytes next others
counts_more base value next bytes rest others small goes counts = record {
  front = counts.front ++ goes.digit ∷ [];
  are = counts.are ∙ ap (λ t. counts.front ++ t) goes.are ∙ sym (append_assoc counts.front (goes.digit ∷ []) others);
  into = λ code y n.
      let number : IsNumber base (value * base + digit_value goes.digit) code y = subst (λ (v : ℕ). IsNumber base v code y) goes.next_is n in
      subst (IsNumber base 0 code) (sym (append_assoc counts.front (goes.digit ∷ []) y)) (counts.into code (goes.digit ∷ y) (step_into base value goes.digit code y goes.in_base number));
  stops = λ n s.
      let there : StopsAt (IsSome base (value * base + digit_value goes.digit)) others n = subst (λ (v : ℕ). StopsAt (IsSome base v) others n) goes.next_is s in
      counts.stops n (subst (λ t. StopsAt (IsSome base value) t n) (sym goes.are) ((leads_digit base value goes.digit others small goes.in_base).stops n there));
  most = goes.most;
}

pub counts_end : (base value : ℕ) (bytes rest behind : List ℕ) → is_allowed value ≡ true → rest ≡ 59 ∷ behind → Counts base bytes value rest → Reads (IsNumber base 0 value) bytes behind
counts_end base value bytes rest behind allowed is counts = record {
  front = counts.front ++ 59 ∷ [];
  are = counts.are ∙ ap (λ t. counts.front ++ t) is ∙ sym (append_assoc counts.front (59 ∷ []) behind);
  is = counts.into value (59 ∷ []) (record { digits = []; are = refl; in_base = refl; spells = refl; allowed = allowed });
}

-- ---- a number that can't go on

grows : (base value : ℕ) (digits : List ℕ) → 1 ≤ base → value ≤ number_from base value digits
grows base value [] least = omega arith
grows base value (d ∷ digits) least =
    let more = grows base (value * base + digit_value d) digits least in
    let times : value * 1 ≤ value * base = mul-le-mul_left value least in
    omega (arith, more, times)

most_allowed : (code : ℕ) → is_allowed code ≡ true → code ≤ 0x10FFFF
most_allowed code allowed = grind (arith, nat_tests)

-- the rest doesn't end the number
abbrev pub IsOpen : ℕ → List ℕ → Type 0
IsOpen value rest = (is_allowed value ≡ false) ⊎ BeginsOtherwise 59 rest

not_closed : (value : ℕ) (rest tail : List ℕ) → IsOpen value rest → is_allowed value ≡ true → rest ≡ 59 ∷ tail → ⊥
not_closed value rest tail (inl h) allowed e = false≢true (sym h ∙ allowed)
not_closed value [] tail (inr h) allowed e = absurd (cc)
not_closed value (b ∷ rest) tail (inr h) allowed e = h cc

stuck_at : (base value code : ℕ) (digits p q r rest : List ℕ) → 1 ≤ base → EndsNumber base value rest → IsOpen value rest → p ++ q ≡ digits ++ codes ";" → list_all (is_digit base) digits ≡ true
    → code ≡ number_from base value digits → is_allowed code ≡ true → rest ≡ p ++ r → (length rest ≤ length r) × (q ≢ [])
stuck_at base value code [] [] q r rest least ends going are all spells allowed e = (omega (arith, ap length e), no_cons q 59 [] are)
stuck_at base value code (d ∷ digits) [] q r rest least ends going are all spells allowed e = (omega (arith, ap length e), no_cons q d (digits ++ codes ";") are)
stuck_at base value code [] (b ∷ p) q r rest least ends going are all spells allowed e =
    let head : b ≡ 59 = cc in
    absurd (not_closed value rest (p ++ r) going (subst (λ (c : ℕ). is_allowed c ≡ true) spells allowed) (e ∙ ap (λ c. c ∷ (p ++ r)) head))
stuck_at base value code (d ∷ digits) (b ∷ p) q r [] least ends going are all spells allowed e = absurd (cc)
stuck_at base value code (d ∷ digits) (b ∷ p) q r (c ∷ rest) least ends going are all spells allowed e =
    let head : b ≡ d = cc in
    let first : c ≡ b = cc in
    let digit : is_digit base c ≡ true = ap (is_digit base) (first ∙ head) ∙ (and_split (is_digit base d) (list_all (is_digit base) digits) all).0 in
    let more = grows base (value * base + digit_value d) digits least in
    let most = most_allowed code allowed in
    let same : digit_value c ≡ digit_value d = ap digit_value (first ∙ head) in
    absurd (ends digit (omega (arith, more, most, spells, same)))

allowed_low : (c : ℕ) → 0x20 ≤ c → c ≤ 0xD7FF → is_allowed c ≡ true
allowed_low c least most = grind (arith, nat_tests)

allowed_high : (c : ℕ) → 0x10000 ≤ c → c ≤ 0x10FFFF → is_allowed c ≡ true
allowed_high c least most = grind (arith, nat_tests)

-- the number ends here
ends_here : (base value : ℕ) → is_allowed value ≡ true → (y : List ℕ) × IsSome base value y
ends_here base value allowed = (codes ";", (value, record { digits = []; are = refl; in_base = refl; spells = refl; allowed = allowed }))

-- the number ends behind a digit more
behind_digit : (base value digit : ℕ) → is_digit base digit ≡ true → (y : List ℕ) × IsSome base (value * base + digit_value digit) y → (y : List ℕ) × IsSome base value y
behind_digit base value digit in_base rest = (digit ∷ rest.0, (rest.1.0, step_into base value digit rest.1.0 rest.0 in_base rest.1.1))

-- a code that isn't allowed and isn't of a control character is of a surrogate or above U+FFFD
between : (value : ℕ) → 0x20 ≤ value → value ≤ 0x10FFFF → is_allowed value ≡ false → (0xD7FF < value) × (value < 0x10000)
between value least most fails =
    ⊎_elim (λ (h : 0xD7FF < value).
    ⊎_elim (λ (g : value < 0x10000). (h, g)) (λ (g : 0x10000 ≤ value). absurd (false≢true (sym fails ∙ allowed_high value g most))) (cases_lt value 0x10000))
    (λ (h : value ≤ 0xD7FF). absurd (false≢true (sym fails ∙ allowed_low value least h)))
    (cases_lt 0xD7FF value)

-- in a base from 10 to 16, whose digits are 0 and 9 among others
goes_at : (base value : ℕ) → 10 ≤ base → base ≤ 16 → is_digit base 48 ≡ true → is_digit base 57 ≡ true → value ≤ 0x10FFFF → (y : List ℕ) × IsSome base value y
goes_at base value least small zero_is nine_is most =
    let once = value * base + 0 in
    let low : value * 10 ≤ value * base = mul-le-mul_left value least in
    let high : value * base ≤ value * 16 = mul-le-mul_left value small in
    let low_again : once * 10 ≤ once * base = mul-le-mul_left once least in
    let high_again : once * base ≤ once * 16 = mul-le-mul_left once small in
    ⊎_elim (λ (h : is_allowed value ≡ true). ends_here base value h)
    (λ (h : is_allowed value ≡ false).
    ⊎_elim
    (λ (g : value < 0x20).
    ⊎_elim
    (λ (z : value < 1).
    let nothing : 0 ≡ value = omega arith in
    let nine : 9 ≡ 0 * base + 9 = omega arith in
    subst (λ (v : ℕ). (y : List ℕ) × IsSome base v y) nothing (behind_digit base 0 57 nine_is (ends_here base (0 * base + 9) (subst (λ (v : ℕ). is_allowed v ≡ true) nine refl))))
    (λ (z : 1 ≤ value).
    behind_digit base value 48 zero_is (behind_digit base once 48 zero_is (ends_here base (once * base + 0) (allowed_low (once * base + 0) (omega (arith, low, low_again)) (omega (arith, high, high_again))))))
    (cases_lt value 1))
    (λ (g : 0x20 ≤ value).
    let far = between value g most h in
    let more = far.0 in
    let less = far.1 in
    behind_digit base value 48 zero_is (ends_here base once (allowed_high once (omega (arith, low)) (omega (arith, high)))))
    (cases_lt value 0x20))
    (cases_Bool (is_allowed value))

pub goes_on : (base value : ℕ) → (base ≡ 10) ⊎ (base ≡ 16) → value ≤ 0x10FFFF → (y : List ℕ) × IsSome base value y
goes_on base value (inl h) most = subst (λ (b : ℕ). (y : List ℕ) × IsSome b value y) (sym h) (goes_at 10 value (omega arith) (omega arith) refl refl most)
goes_on base value (inr h) most = subst (λ (b : ℕ). (y : List ℕ) × IsSome b value y) (sym h) (goes_at 16 value (omega arith) (omega arith) refl refl most)

pub least_base : (base : ℕ) → (base ≡ 10) ⊎ (base ≡ 16) → (1 ≤ base) × (base ≤ 16)
least_base base (inl h) = (omega arith, omega arith)
least_base base (inr h) = (omega arith, omega arith)

-- a stop where no digit goes on and the number doesn't end
pub counts_stop : (base value : ℕ) (bytes rest : List ℕ) → (base ≡ 10) ⊎ (base ≡ 16) → EndsNumber base value rest → IsOpen value rest → Counts base bytes value rest → StopsAt (IsSome base 0) bytes (length rest)
counts_stop base value bytes rest base_is ends going counts = counts.stops (length rest) (record {
  front = [];
  rest = rest;
  are = refl;
  left_is = refl;
  begins = goes_on base value base_is counts.most;
  apart = λ p q r d e. stuck_at base value d.0 d.1.digits p q r rest (least_base base base_is).0 ends going d.1.are d.1.in_base d.1.spells d.1.allowed e;
})

-- no number begins another, and each has one code
pub number_once : (base value c d : ℕ) (x y r s : List ℕ) → base ≤ 16 → IsNumber base value c x → IsNumber base value d y → x ++ r ≡ y ++ s → (c ≡ d) × (x ≡ y)
number_once base value c d x y r s small m n e =
    let em : x ++ r ≡ m.digits ++ 59 ∷ r = ap (λ t. t ++ r) m.are ∙ append_assoc m.digits (codes ";") r in
    let en : y ++ s ≡ n.digits ++ 59 ∷ s = ap (λ t. t ++ s) n.are ∙ append_assoc n.digits (codes ";") s in
    let fails = semicolon base small in
    let once = run_once (is_digit base) m.digits n.digits 59 59 r s m.in_base n.in_base fails fails (sym em ∙ e ∙ en) in
    (m.spells ∙ ap (number_from base value) once.0 ∙ sym n.spells, m.are ∙ ap (λ t. t ++ codes ";") once.0 ∙ sym n.are)
