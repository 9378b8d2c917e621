-- What is read is XML text.
use Rattle.std.proofs.Common.{◌≡◌, ℕ, zero, suc, ◌+◌, ◌/◌, ◌%◌, ◌<◌, ◌≤◌, inl, inr, true, List, [], ◌∷◌, ◌++◌, append-nil, refl, sym, ap, subst, arith, codes}
use Rattle.std.specs.Char.{encode_utf8}
use Rattle.std.specs.List.{list_all}
use Rattle.std.proofs.lemmas.Bool.{cases_lt}
use Rattle.std.proofs.lemmas.Bool.Decides.{nat_tests}
use Rattle.std.proofs.lemmas.Str.{encode_ascii}
use Rattle.lti_outside.proofs.BoolLemmas.{and_split}
use Rattle.pox_outcomes.specs.Characters.{is_within, is_allowed, IsRow, IsCharacter}
use Rattle.pox_outcomes.specs.References.{IsClosing}
use Rattle.pox_outcomes.specs.Texts.{is_gap, IsGap, IsUnit, IsRest, ends, goes, IsBegun}
use Rattle.pox_outcomes.specs.Leaves.{IsLeaf}
use Rattle.pox_outcomes.specs.Document.{message_end}
use Rattle.pox_outcomes.specs.Scores.{IsScored}
use Rattle.pox_outcomes.specs.Request.{scores, replace_end, IsTail}
use Rattle.pox_outcomes.specs.Written.{IsXmlText, none, one}
use Rattle.pox_outcomes.specs.Laws.{ReadIsWritable}
use Rattle.pox_outcomes.specs.declared.outcome.Operation.{Operation}
use Rattle.pox_outcomes.specs.declared.outcome.Operation.TheVariants.{ReplaceResult, ReadResult, DeleteResult}
use Rattle.pox_outcomes.proofs.Utf8Lemmas.{encode_two, encode_three, encode_four}
use Rattle.pox_outcomes.proofs.AnswerBackLemmas.{xml_append}

-- ---- the bytes of an allowed character

inside : (lo hi b : ℕ) → lo ≤ b → b ≤ hi → is_within (lo, hi) b ≡ true
inside lo hi b low high = grind (arith, nat_tests)

row_one : (r : ℕ × ℕ) (a : ℕ) → is_within r a ≡ true → IsRow (r ∷ []) (a ∷ [])
row_one r a is = record { front = a ∷ []; back = []; are = refl; first = (a, refl, is); second = refl }

row_more : (r : ℕ × ℕ) (row : List (ℕ × ℕ)) (a : ℕ) (x : List ℕ) → is_within r a ≡ true → IsRow row x → IsRow (r ∷ row) (a ∷ x)
row_more r row a x is rest = record { front = a ∷ []; back = x; are = refl; first = (a, refl, is); second = rest }

tail_byte : (n : ℕ) → is_within (0x80, 0xBF) (128 + n % 64) ≡ true
tail_byte n = inside 0x80 0xBF (128 + n % 64) (omega arith) (omega arith)

low_code : (c : ℕ) → is_allowed c ≡ true → c < 0x20 → (c ≡ 13 → ⊥) → (9 ≤ c) × (c ≤ 10)
low_code c is small other = (grind (arith, nat_tests), grind (arith, nat_tests))

no_surrogate : (c : ℕ) → is_allowed c ≡ true → 0xD800 ≤ c → 0xE000 ≤ c
no_surrogate c is least = grind (arith, nat_tests)

no_end : (c : ℕ) → is_allowed c ≡ true → c < 0x10000 → c ≤ 0xFFFD
no_end c is small = grind (arith, nat_tests)

most_code : (c : ℕ) → is_allowed c ≡ true → c ≤ 0x10FFFF
most_code c is = grind (arith, nat_tests)

code_one : (c : ℕ) → is_allowed c ≡ true → c < 128 → IsCharacter (c ∷ [])
code_one c is small =
    elim (cases_lt c 0x20) [
      | inr printable ↦ (0, omega arith, row_one (0x20, 0x7F) c (inside 0x20 0x7F c printable (omega arith)))
      | inl low ↦ elim (cases_lt c 13) [
        | inl less ↦ (let r = low_code c is low (λ e. omega arith) in (1, omega arith, row_one (0x09, 0x0A) c (inside 0x09 0x0A c r.0 r.1)))
        | inr more ↦ (let r = at_return c is low more in (2, omega arith, row_one (0x0D, 0x0D) c (inside 0x0D 0x0D c more r)))
      ]
    ]
  where
    at_return : (c : ℕ) → is_allowed c ≡ true → c < 0x20 → 13 ≤ c → c ≤ 13
    at_return c is low more = grind (arith, nat_tests)

code_two : (c : ℕ) → 128 ≤ c → c < 0x800 → IsCharacter ((192 + c / 64) ∷ (128 + c % 64) ∷ [])
code_two c least most = (3, omega arith, row_more (0xC2, 0xDF) ((0x80, 0xBF) ∷ []) (192 + c / 64) ((128 + c % 64) ∷ []) (inside 0xC2 0xDF (192 + c / 64) (omega arith) (omega arith)) (row_one (0x80, 0xBF) (128 + c % 64) (tail_byte c)))

three_row : (p q s : ℕ × ℕ) (a b d : ℕ) → is_within p a ≡ true → is_within q b ≡ true → is_within s d ≡ true → IsRow (p ∷ q ∷ s ∷ []) (a ∷ b ∷ d ∷ [])
three_row p q s a b d x y z = row_more p (q ∷ s ∷ []) a (b ∷ d ∷ []) x (row_more q (s ∷ []) b (d ∷ []) y (row_one s d z))

four_row : (p q s t : ℕ × ℕ) (a b d f : ℕ) → is_within p a ≡ true → is_within q b ≡ true → is_within s d ≡ true → is_within t f ≡ true → IsRow (p ∷ q ∷ s ∷ t ∷ []) (a ∷ b ∷ d ∷ f ∷ [])
four_row p q s t a b d f x y z w = row_more p (q ∷ s ∷ t ∷ []) a (b ∷ d ∷ f ∷ []) x (three_row q s t b d f y z w)

abbrev first_of_three : ℕ → ℕ
first_of_three c = 224 + c / 4096

abbrev second_of_three : ℕ → ℕ
second_of_three c = 128 + (c / 64) % 64

abbrev last_byte : ℕ → ℕ
last_byte c = 128 + c % 64

code_three : (c : ℕ) → is_allowed c ≡ true → 0x800 ≤ c → c < 0x10000 → IsCharacter (first_of_three c ∷ second_of_three c ∷ last_byte c ∷ [])
code_three c is least small =
    let end = no_end c is small in
    elim (cases_lt c 0x1000) [
      | inl h ↦ (4, omega arith, three_row (0xE0, 0xE0) (0xA0, 0xBF) (0x80, 0xBF) (first_of_three c) (second_of_three c) (last_byte c) (inside 0xE0 0xE0 (first_of_three c) (omega arith) (omega arith)) (inside 0xA0 0xBF (second_of_three c) (omega arith) (omega arith)) (tail_byte c))
      | inr l ↦ elim (cases_lt c 0xD000) [
        | inl h ↦ (5, omega arith, three_row (0xE1, 0xEC) (0x80, 0xBF) (0x80, 0xBF) (first_of_three c) (second_of_three c) (last_byte c) (inside 0xE1 0xEC (first_of_three c) (omega arith) (omega arith)) (tail_byte (c / 64)) (tail_byte c))
        | inr l ↦ elim (cases_lt c 0xD800) [
          | inl h ↦ (6, omega arith, three_row (0xED, 0xED) (0x80, 0x9F) (0x80, 0xBF) (first_of_three c) (second_of_three c) (last_byte c) (inside 0xED 0xED (first_of_three c) (omega arith) (omega arith)) (inside 0x80 0x9F (second_of_three c) (omega arith) (omega arith)) (tail_byte c))
          | inr l ↦ (let over = no_surrogate c is l in elim (cases_lt c 0xF000) [
            | inl h ↦ (7, omega arith, three_row (0xEE, 0xEE) (0x80, 0xBF) (0x80, 0xBF) (first_of_three c) (second_of_three c) (last_byte c) (inside 0xEE 0xEE (first_of_three c) (omega arith) (omega arith)) (tail_byte (c / 64)) (tail_byte c))
            | inr l ↦ elim (cases_lt c 0xFFC0) [
              | inl h ↦ (8, omega arith, three_row (0xEF, 0xEF) (0x80, 0xBE) (0x80, 0xBF) (first_of_three c) (second_of_three c) (last_byte c) (inside 0xEF 0xEF (first_of_three c) (omega arith) (omega arith)) (inside 0x80 0xBE (second_of_three c) (omega arith) (omega arith)) (tail_byte c))
              | inr l ↦ (9, omega arith, three_row (0xEF, 0xEF) (0xBF, 0xBF) (0x80, 0xBD) (first_of_three c) (second_of_three c) (last_byte c) (inside 0xEF 0xEF (first_of_three c) (omega arith) (omega arith)) (inside 0xBF 0xBF (second_of_three c) (omega arith) (omega arith)) (inside 0x80 0xBD (last_byte c) (omega arith) (omega arith)))
            ]
          ])
        ]
      ]
    ]

abbrev first_of_four : ℕ → ℕ
first_of_four c = 240 + c / 262144

abbrev second_of_four : ℕ → ℕ
second_of_four c = 128 + (c / 4096) % 64

code_four : (c : ℕ) → is_allowed c ≡ true → 0x10000 ≤ c → IsCharacter (first_of_four c ∷ second_of_four c ∷ second_of_three c ∷ last_byte c ∷ [])
code_four c is least =
    let most = most_code c is in
    elim (cases_lt c 0x40000) [
      | inl h ↦ (10, omega arith, four_row (0xF0, 0xF0) (0x90, 0xBF) (0x80, 0xBF) (0x80, 0xBF) (first_of_four c) (second_of_four c) (second_of_three c) (last_byte c) (inside 0xF0 0xF0 (first_of_four c) (omega arith) (omega arith)) (inside 0x90 0xBF (second_of_four c) (omega arith) (omega arith)) (tail_byte (c / 64)) (tail_byte c))
      | inr l ↦ elim (cases_lt c 0x100000) [
        | inl h ↦ (11, omega arith, four_row (0xF1, 0xF3) (0x80, 0xBF) (0x80, 0xBF) (0x80, 0xBF) (first_of_four c) (second_of_four c) (second_of_three c) (last_byte c) (inside 0xF1 0xF3 (first_of_four c) (omega arith) (omega arith)) (tail_byte (c / 4096)) (tail_byte (c / 64)) (tail_byte c))
        | inr l ↦ (12, omega arith, four_row (0xF4, 0xF4) (0x80, 0x8F) (0x80, 0xBF) (0x80, 0xBF) (first_of_four c) (second_of_four c) (second_of_three c) (last_byte c) (inside 0xF4 0xF4 (first_of_four c) (omega arith) (omega arith)) (inside 0x80 0x8F (second_of_four c) (omega arith) (omega arith)) (tail_byte (c / 64)) (tail_byte c))
      ]
    ]

-- an allowed code's UTF-8 is an allowed character
code_character : (c : ℕ) → is_allowed c ≡ true → IsCharacter (encode_utf8 c)
code_character c is =
    elim (cases_lt c 128) [
      | inl small ↦ subst IsCharacter (sym (encode_ascii c small)) (code_one c is small)
      | inr l ↦ elim (cases_lt c 0x800) [
        | inl h ↦ subst IsCharacter (sym (encode_two c l h)) (code_two c l h)
        | inr l ↦ elim (cases_lt c 0x10000) [
          | inl h ↦ subst IsCharacter (sym (encode_three c l h)) (code_three c is l h)
          | inr l ↦ subst IsCharacter (sym (encode_four c l)) (code_four c is l)
        ]
      ]
    ]

-- ---- texts

closing_allowed : (place code : ℕ) (bytes : List ℕ) → place < 6 → IsClosing place code bytes → is_allowed code ≡ true
closing_allowed zero code bytes within h = ap is_allowed h.0
closing_allowed (suc zero) code bytes within h = ap is_allowed h.0
closing_allowed (suc (suc zero)) code bytes within h = ap is_allowed h.0
closing_allowed (suc (suc (suc zero))) code bytes within h = ap is_allowed h.0
closing_allowed (suc (suc (suc (suc zero)))) code bytes within h = ap is_allowed h.0
closing_allowed (suc (suc (suc (suc (suc zero))))) code bytes within (inl h) = h.second.allowed
closing_allowed (suc (suc (suc (suc (suc zero))))) code bytes within (inr h) = h.allowed
closing_allowed (suc (suc (suc (suc (suc (suc place)))))) code bytes within h = absurd (omega arith)

unit_character : (text bytes : List ℕ) → IsUnit text bytes → IsCharacter text
unit_character text bytes (inl h) = subst IsCharacter h.1 h.0.character
unit_character text bytes (inr h) = subst IsCharacter (sym h.1) (code_character h.0 (closing_allowed h.2.0 h.0 h.2.2.back h.2.1 h.2.2.second))

one_character : (x : List ℕ) → IsCharacter x → IsXmlText x
one_character x is = one x [] is (none refl) (sym (append-nil x))

gap_character : (b : ℕ) → is_gap b ≡ true → IsCharacter (b ∷ [])
gap_character b is =
    elim (cases_lt b 0x20) [
      | inr l ↦ (0, omega arith, row_one (0x20, 0x7F) b (inside 0x20 0x7F b l (space b is l)))
      | inl h ↦ (let r = tabs b is h in (1, omega arith, row_one (0x09, 0x0A) b (inside 0x09 0x0A b r.0 r.1)))
    ]
  where
    space : (b : ℕ) → is_gap b ≡ true → 0x20 ≤ b → b ≤ 0x7F
    space b is l = grind (arith, nat_tests)

    tabs : (b : ℕ) → is_gap b ≡ true → b < 0x20 → (9 ≤ b) × (b ≤ 10)
    tabs b is h = (grind (arith, nat_tests), grind (arith, nat_tests))

gap_xml : (gap : List ℕ) → IsGap gap → IsXmlText gap
gap_xml [] is = none refl
gap_xml (b ∷ gap) is =
    let both = and_split (is_gap b) (list_all is_gap gap) is in
    one (b ∷ []) gap (gap_character b both.0) (gap_xml gap both.1) refl

rest_xml : (text bytes : List ℕ) → IsRest text bytes → IsXmlText text
rest_xml text bytes (ends white is are none_left) = none none_left
rest_xml text bytes (goes gap here unit others rest gap_is unit_is behind are text_is) =
    subst IsXmlText (sym text_is) (xml_append gap (here ++ others) (gap_xml gap gap_is) (xml_append here others (one_character here (unit_character here unit unit_is)) (rest_xml others rest behind)))

begun_xml : (text bytes : List ℕ) → IsBegun text bytes → IsXmlText text
begun_xml text bytes (inl h) = none h.0
begun_xml text bytes (inr u) = subst IsXmlText (sym u.text_is) (xml_append u.here u.others (one_character u.here (unit_character u.here u.unit u.is)) (rest_xml u.others u.rest u.behind))

leaf_xml : (closing text bytes : List ℕ) → IsLeaf closing text bytes → IsXmlText text
leaf_xml closing text bytes (inl h) = none h.0
leaf_xml closing text bytes (inr h) = begun_xml text h.second.first.back h.second.first.second

-- ---- outcomes

scored_xml : (words : List (List ℕ)) (closing score bytes : List ℕ) → IsScored words closing score bytes → IsXmlText score
scored_xml words closing score bytes (inl h) = leaf_xml (codes "/textString >") score h.second.second.second.front h.second.second.second.first
scored_xml words closing score bytes (inr h) = leaf_xml (codes "/textString >") score h.second.front h.second.first

tail_xml : (operation : Operation) (score bytes : List ℕ) → IsTail operation score bytes → IsXmlText score
tail_xml ReplaceResult score bytes h = scored_xml scores replace_end score bytes h
tail_xml ReadResult score bytes h = none h.0
tail_xml DeleteResult score bytes h = none h.0

tail_fits : (operation : Operation) (score bytes : List ℕ) → IsTail operation score bytes → (operation ≡ ReplaceResult → ⊥) → score ≡ []
tail_fits ReplaceResult score bytes h other = absurd (other refl)
tail_fits ReadResult score bytes h other = h.0
tail_fits DeleteResult score bytes h other = h.0

pub read_is_writable : ReadIsWritable
read_is_writable = λ bytes o d.
    let message = d.first.first.second.second in
    let id = d.first.second.second in (
      record {
        message = leaf_xml message_end o.message message.back message.second;
        sourced_id = leaf_xml (codes "/sourcedId >") o.sourced_id id.front id.first;
        score_text = tail_xml o.operation o.score_text id.back id.second;
      },
      tail_fits o.operation o.score_text id.back id.second,
    )
