-- Texts as they are written.
use Rattle.std.proofs.Common.{◌≡◌, ℕ, ◌+◌, ◌-◌, ◌*◌, ◌<◌, ◌≤◌, Bool, true, false, ◌&&◌, ◌||◌, ◌==◌, List, [], ◌∷◌, ◌++◌, length, drop, get_or, append_assoc, append-nil, refl, sym, ap, ◌∙◌, subst, arith, drop-cons, add-one, length-drop}
use Rattle.std.proofs.lemmas.List.{drop_all}
use Rattle.std.proofs.lemmas.Bool.{false≢true}
use Rattle.std.proofs.lemmas.Bool.Decides.{nat_tests}
use Rattle.pox_outcomes.specs.Language.{StopsAt, Reads}
use Rattle.pox_outcomes.specs.Characters.{IsCharacter}
use Rattle.pox_outcomes.specs.Written.{IsXmlText, none, one, escape_byte, escape_part}
use Rattle.pox_outcomes.proofs.SequenceLemmas.{behind_same}
use Rattle.pox_outcomes.proofs.CharacterLemmas.{free_character}

-- ---- allowed characters

character_front : (x y : List ℕ) → IsCharacter x → IsXmlText (x ++ y) → (x ++ y ≡ [] → ⊥) → IsXmlText y
character_front x y is (none e) some_byte = absurd (some_byte e)
character_front x y is (one character rest c behind are) some_byte =
    let same : x ≡ character = free_character x character y rest is c are in
    subst IsXmlText (sym (behind_same x character y rest same are)) behind

-- a text with a character in front holds allowed characters exactly where what stands behind it does
pub xml_more : (rest others : List ℕ) → (rest ≡ [] → ⊥) → Reads IsCharacter rest others → IsXmlText rest → IsXmlText others
xml_more rest others long reads is =
    character_front reads.front others reads.is (subst IsXmlText reads.are is) (λ z. long (reads.are ∙ z))

pub xml_back : (rest others : List ℕ) → Reads IsCharacter rest others → IsXmlText others → IsXmlText rest
xml_back rest others reads is = one reads.front others reads.is is reads.are

-- no character in front
pub xml_stops : (rest : List ℕ) (n : ℕ) → (rest ≡ [] → ⊥) → StopsAt IsCharacter rest n → IsXmlText rest → ⊥
xml_stops rest n long s (none e) = long e
xml_stops rest n long s (one character others c behind are) =
    (s.apart character [] others (subst IsCharacter (sym (append-nil character)) c) are).1 refl

-- ---- escapes

pub escape_part-nil : (first last : Bool) → escape_part first last [] ≡ []
unfolding escape_part
escape_part-nil first last = refl

pub escape_part-cons : (first last : Bool) (b : ℕ) (text : List ℕ) → escape_part first last (b ∷ text) ≡ escape_byte (first || (last && length text == 0)) b ++ escape_part false last text
unfolding escape_part
escape_part-cons first last b text = refl

-- what is written so far, with what is left to write
abbrev pub IsWriting : Bool → Bool → List ℕ → List ℕ → ℕ → List ℕ → Type 0
IsWriting first last text old at out = out ++ escape_part (first && at == 0) last (drop at text) ≡ old ++ escape_part first last text

and_true : (t : Bool) → (t && true) ≡ t
and_true true = refl
and_true false = refl

and_false : (t : Bool) → (t && false) ≡ false
and_false true = refl
and_false false = refl

pub writing_start : (first last : Bool) (text old : List ℕ) → IsWriting first last text old 0 old
writing_start first last text old = ap (λ t. old ++ escape_part t last text) (and_true first)

zero_next : (at : ℕ) → (at + 1 == 0) ≡ false
zero_next at = grind (arith, nat_tests)

last_test : (m n k : ℕ) → m ≤ n → k ≡ n - m → (m == n) ≡ (k == 0)
last_test m n k most is = grind (arith, nat_tests)

pub writing_more : (first last : Bool) (text old out next : List ℕ) (at b : ℕ) (edge : Bool) → at < length text → b ≡ get_or text at 0 → edge ≡ ((first && at == 0) || (last && at + 1 == length text)) → next ≡ out ++ escape_byte edge b
    → IsWriting first last text old at out → IsWriting first last text old (at + 1) next
writing_more first last text old out next at b edge within b_is edge_is next_is so_far =
    let rest = drop (at + 1) text in
    let step : drop at text ≡ b ∷ rest = drop-cons text at 0 within ∙ ap (λ n. get_or text at 0 ∷ drop n text) (sym (add-one at)) ∙ ap (λ c. c ∷ rest) (sym b_is) in
    let long = length-drop (at + 1) text in
    let ends_too : (at + 1 == length text) ≡ (length rest == 0) = last_test (at + 1) (length text) (length rest) (omega arith) long in
    let edge_too : edge ≡ ((first && at == 0) || (last && length rest == 0)) = edge_is ∙ ap (λ t. (first && at == 0) || (last && t)) ends_too in
    let begun : (first && at + 1 == 0) ≡ false = ap (λ t. first && t) (zero_next at) ∙ and_false first in
    let here : escape_part (first && at == 0) last (drop at text) ≡ escape_byte edge b ++ escape_part (first && at + 1 == 0) last rest =
    ap (escape_part (first && at == 0) last) step ∙ escape_part-cons (first && at == 0) last b rest ∙ ap (λ t. escape_byte t b ++ escape_part false last rest) (sym edge_too)
    ∙ ap (λ t. escape_byte edge b ++ escape_part t last rest) (sym begun) in
    ap (λ t. t ++ escape_part (first && at + 1 == 0) last rest) next_is ∙ append_assoc out (escape_byte edge b) (escape_part (first && at + 1 == 0) last rest) ∙ ap (λ t. out ++ t) (sym here) ∙ so_far

pub writing_end : (first last : Bool) (text old out : List ℕ) (at : ℕ) → length text ≤ at → IsWriting first last text old at out → out ≡ old ++ escape_part first last text
writing_end first last text old out at past so_far =
    let done : drop at text ≡ [] = drop_all at text past in
    sym (append-nil out) ∙ ap (λ t. out ++ t) (sym (escape_part-nil (first && at == 0) last)) ∙ ap (λ t. out ++ escape_part (first && at == 0) last t) (sym done) ∙ so_far

-- what is written, and the room that is left: five bytes for each byte of the text
pub record Puts (first last : Bool) (text old : List ℕ) (before at : ℕ) (out : List ℕ) (left : ℕ) : Type 0 where
  pub list : IsWriting first last text old at out
  pub room : before ≤ left + 5 * at

pub not_nil : (rest : List ℕ) → (length rest == 0) ≡ false → rest ≡ [] → ⊥
not_nil [] e z = false≢true (sym e)
not_nil (b ∷ rest) e z = absurd (cc)

pub is_nil : (rest : List ℕ) → (length rest == 0) ≡ true → rest ≡ []
is_nil [] e = refl
is_nil (b ∷ rest) e =
    let long : (length (b ∷ rest) == 0) ≡ false = grind (arith, nat_tests) in
    absurd (false≢true (sym long ∙ e))

edge_of : (t : Bool) → (t && true) ≡ (true && t)
edge_of true = refl
edge_of false = refl

-- a piece behind what was written
pub append_step : (old a b out next : List ℕ) → out ≡ old ++ a → next ≡ out ++ b → next ≡ old ++ (a ++ b)
append_step old a b out next e f = f ∙ ap (λ t. t ++ b) e ∙ append_assoc old a b

-- a space before the end of a text
pub last_part : (out id first second : List ℕ) → first ≡ out ++ escape_part false (length id == 0) (32 ∷ []) → second ≡ first ++ escape_part false true id → second ≡ out ++ escape_part false true (32 ∷ id)
last_part out id first second e f =
    let space : escape_part false (length id == 0) (32 ∷ []) ≡ escape_byte (true && length id == 0) 32 =
    escape_part-cons false (length id == 0) 32 [] ∙ ap (λ t. escape_byte ((length id == 0) && true) 32 ++ t) (escape_part-nil false (length id == 0)) ∙ append-nil (escape_byte ((length id == 0) && true) 32)
    ∙ ap (λ t. escape_byte t 32) (edge_of (length id == 0)) in
    append_step out (escape_byte (true && length id == 0) 32) (escape_part false true id) first second (e ∙ ap (λ t. out ++ t) space) f ∙ ap (λ t. out ++ t) (sym (escape_part-cons false true 32 id))
