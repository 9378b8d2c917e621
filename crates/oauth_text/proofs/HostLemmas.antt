-- The names of hosts are ASCII.
use Rattle.std.proofs.Common.{◌≡◌, ℕ, ◌-◌, ◌<◌, true, ◌&&◌, ◌==◌, leb, List, [], ◌∷◌, length, get_or, take, All, IsAscii, sym, subst, ⊎_elim, arith, length-take}
use Rattle.std.specs.List.{list_all}
use Rattle.std.proofs.lemmas.Bool.{cases_lt}
use Rattle.std.proofs.lemmas.Bool.Decides.{nat_tests}
use Rattle.std.proofs.lemmas.List.{get_or-take}
use Rattle.std.proofs.lemmas.List.Elements.{All-get_or, All-from_get_or, All-weaker, All-cons}
use Rattle.std.proofs.lemmas.List.Sums.{AllPass-from_list_all}
use Rattle.std.proofs.lemmas.Str.Ascii.{IsAscii-from_all}
use Rattle.oauth_text.specs.Host.{is_name_byte, is_address_byte, is_plain_name, is_closed, is_address, is_host_name}
use Rattle.lti_outside.proofs.BoolLemmas.{and_split, or_split}

small_name_byte : (b : ℕ) → is_name_byte b ≡ true → b < 128
small_name_byte b test = grind (arith, nat_tests)

small_address_byte : (b : ℕ) → is_address_byte b ≡ true → b < 128
small_address_byte b test = grind (arith, nat_tests)

is_byte : (b c : ℕ) → (b == c) ≡ true → b ≡ c
is_byte b c test = grind (arith, nat_tests)

small_plain : (name : List ℕ) → is_plain_name name ≡ true → All (λ b. b < 128) name
small_plain name test =
    let all = and_split (leb 1 (length name) && leb (length name) 255) (list_all is_name_byte name) test in
    All-weaker (λ b. is_name_byte b ≡ true) (λ b. b < 128) small_name_byte name (AllPass-from_list_all is_name_byte name all.1)

small_closed : (rest : List ℕ) → is_closed rest ≡ true → All (λ b. b < 128) rest
small_closed rest test =
    let inner = and_split (leb 2 (length rest) && leb (length rest) 46 && get_or rest (length rest - 1) 0 == 93) (list_all is_address_byte (take (length rest - 1) rest)) test in
    let last = and_split (leb 2 (length rest) && leb (length rest) 46) (get_or rest (length rest - 1) 0 == 93) inner.0 in
    let front = AllPass-from_list_all is_address_byte (take (length rest - 1) rest) inner.1 in
    All-from_get_or (λ (b : ℕ). b < 128) rest 0
    (λ i within.
    ⊎_elim
    (λ before.
    subst (λ (b : ℕ). b < 128) (get_or-take (length rest - 1) rest i 0 before)
    (small_address_byte _ (All-get_or (λ b. is_address_byte b ≡ true) (take (length rest - 1) rest) i 0 (omega (arith, length-take (length rest - 1) rest)) front)))
    (λ after.
    let at : i ≡ length rest - 1 = omega arith in
    subst (λ (k : ℕ). get_or rest k 0 < 128) (sym at) (omega (arith, is_byte _ _ last.1)))
    (cases_lt i (length rest - 1)))

small_address : (name : List ℕ) → is_address name ≡ true → All (λ b. b < 128) name
small_address [] test = absurd (cc)
small_address (first ∷ rest) test =
    let both = and_split (first == 91) (is_closed rest) test in
    All-cons (λ (b : ℕ). b < 128) first rest (omega (arith, is_byte first 91 both.0)) (small_closed rest both.1)

pub IsAscii-host_name : (name : List ℕ) → is_host_name name ≡ true → IsAscii name
IsAscii-host_name name test =
    IsAscii-from_all name (⊎_elim (small_plain name) (small_address name) (or_split (is_plain_name name) (is_address name) test))
