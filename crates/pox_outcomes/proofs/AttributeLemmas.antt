-- The attributes of the root element.
use Rattle.std.proofs.Common.{◌≡◌, ◌≢◌, ℕ, zero, suc, ◌<◌, ◌≤◌, ◌⊎◌, inl, inr, Bool, true, false, ◌||◌, List, [], ◌∷◌, ◌++◌, length, append_assoc, append-nil, refl, sym, ap, ◌∙◌, subst, arith, length-append, codes}
use Rattle.std.specs.List.{list_all}
use Rattle.std.proofs.lemmas.Bool.{false≢true}
use Rattle.std.proofs.lemmas.Bool.Decides.{nat_tests}
use Rattle.lti_outside.proofs.BoolLemmas.{and_split}
use Rattle.pox_outcomes.specs.Language.{Then, ◌▸◌, StopsAt, Reads, IsAmong, Any, IsOnce}
use Rattle.pox_outcomes.specs.Markup.{is_white, IsWhite, IsMarkup, word_at, BeginsOtherwise}
use Rattle.pox_outcomes.specs.Characters.{IsCharacterBy, begins}
use Rattle.pox_outcomes.specs.Attributes.{is_name_start, is_name_byte, after_name, IsName, is_value_byte, IsValue, closes, holds, quotes, quote_at, IsQuoted, IsAttribute, is_xmlns, IsAttributes, ends, goes, ReadsAttribute}
use Rattle.pox_outcomes.proofs.LanguageLemmas.{IsPrefixFree, IsElsewhere, After, Leads, after_leads, leads_then, leads_first, stops_here, stops_beside, stops_same, no_cons, stops_prefix, flipped, first_byte, elsewhere_byte}
use Rattle.pox_outcomes.proofs.RunLemmas.{IsRun, IsOutside, BeginsOutside, front_of, run_once, run_parts, leads_run}
use Rattle.pox_outcomes.proofs.MarkupLemmas.{free_markup}
use Rattle.pox_outcomes.proofs.ChoiceLemmas.{IsCode, code_words, leads_choice, stops_choice, choice_free, nothing_behind}
use Rattle.pox_outcomes.proofs.CharacterLemmas.{free_character}
use Rattle.pox_outcomes.proofs.SequenceLemmas.{joined, then_free, behind_same, parts_even, backs_even, parts_same}
use Rattle.pox_outcomes.proofs.TextLemmas.{by_apart}

abbrev pub IsQuote : ℕ → Type 0
IsQuote quote = (quote ≡ 34) ⊎ (quote ≡ 39)

-- ---- values

quote_fails : (quote : ℕ) → is_value_byte quote quote ≡ false
quote_fails quote = grind (arith, nat_tests)

pub letter_passes : (quote : ℕ) → IsQuote quote → is_value_byte quote 97 ≡ true
letter_passes quote (inl h) = rw h refl
letter_passes quote (inr h) = rw h refl

no_quote : (quote : ℕ) (x r s : List ℕ) → IsCharacterBy (is_value_byte quote) x → quote ∷ r ≡ x ++ s → ⊥
no_quote quote x r s c e =
    let first = first_byte (is_value_byte quote) x c.first in
    let whole : quote ∷ r ≡ first.0 ∷ (first.1 ++ s) = e ∙ ap (λ t. t ++ s) first.2 in
    let head : quote ≡ first.0 = cc in
    false≢true (sym (quote_fails quote) ∙ ap (is_value_byte quote) head ∙ first.3)

value_out : (quote : ℕ) (x d r s : List ℕ) → IsCharacterBy (is_value_byte quote) x → IsValue quote d → d ++ r ≡ x ++ s → (y : List ℕ) × (d ≡ x ++ y) × IsValue quote y
value_out quote x d r s c (closes is) e = absurd (no_quote quote x r s c (ap (λ t. t ++ r) (sym is) ∙ e))
value_out quote x d r s c (holds character rest is behind are) e =
    let whole : character ++ (rest ++ r) ≡ x ++ s = sym (append_assoc character rest r) ∙ ap (λ t. t ++ r) (sym are) ∙ e in
    let same = free_character character x (rest ++ r) s is.character c.character whole in
    (rest, are ∙ ap (λ t. t ++ rest) same, behind)

-- a character of the value
pub leads_value : (quote : ℕ) (bytes rest : List ℕ) → Reads (IsCharacterBy (is_value_byte quote)) bytes rest → Leads (IsValue quote) bytes (IsValue quote) rest
leads_value quote bytes rest reads = after_leads bytes reads.front rest reads.are (record {
  into = λ y v. holds reads.front y reads.is v refl;
  out = λ d r s v e. value_out quote reads.front d r s reads.is v e;
})

pub value_end : (quote : ℕ) (bytes rest behind : List ℕ) → Leads (IsValue quote) bytes (IsValue quote) rest → rest ≡ quote ∷ behind → Reads (IsValue quote) bytes behind
value_end quote bytes rest behind leads is = record {
  front = leads.front ++ quote ∷ [];
  are = leads.are ∙ ap (λ t. leads.front ++ t) is ∙ sym (append_assoc leads.front (quote ∷ []) behind);
  is = leads.into (quote ∷ []) (closes refl);
}

to_value : (quote : ℕ) (x : List ℕ) → Then (IsCharacterBy (is_value_byte quote)) (IsValue quote) x ⊎ (x ≡ quote ∷ []) → IsValue quote x
to_value quote x (inl h) = holds h.front h.back h.first h.second h.are
to_value quote x (inr h) = closes h

from_value : (quote : ℕ) (x : List ℕ) → IsValue quote x → Then (IsCharacterBy (is_value_byte quote)) (IsValue quote) x ⊎ (x ≡ quote ∷ [])
from_value quote x (closes is) = inr is
from_value quote x (holds character rest is behind are) = inl (record { front = character; back = rest; are = are; first = is; second = behind })

-- a stop in the value
pub value_stops : (quote : ℕ) (rest : List ℕ) (n : ℕ) → BeginsOtherwise quote rest → StopsAt (IsCharacterBy (is_value_byte quote)) rest n → StopsAt (IsValue quote) rest n
value_stops quote rest n other s =
    stops_same rest n (to_value quote) (from_value quote)
    (stops_beside rest n (λ p q r d e. elsewhere_byte quote rest p q r [] other d e) (stops_here rest n (quote ∷ []) (closes refl) s))

pub free_value : (quote : ℕ) (x y r s : List ℕ) → IsValue quote x → IsValue quote y → x ++ r ≡ y ++ s → x ≡ y
free_value quote x y r s (closes is) (closes is2) e = is ∙ sym is2
free_value quote x y r s (closes is) (holds character rest c behind are) e =
    absurd (no_quote quote character r (rest ++ s) c (ap (λ t. t ++ r) (sym is) ∙ e ∙ ap (λ t. t ++ s) are ∙ append_assoc character rest s))
free_value quote x y r s (holds character rest c behind are) (closes is) e =
    absurd (no_quote quote character s (rest ++ r) c (ap (λ t. t ++ s) (sym is) ∙ sym e ∙ ap (λ t. t ++ r) are ∙ append_assoc character rest r))
free_value quote x y r s (holds character rest c behind are) (holds character2 rest2 c2 behind2 are2) e =
    let a : Then (IsCharacterBy (is_value_byte quote)) (IsValue quote) x = record { front = character; back = rest; are = are; first = c; second = behind } in
    let b : Then (IsCharacterBy (is_value_byte quote)) (IsValue quote) y = record { front = character2; back = rest2; are = are2; first = c2; second = behind2 } in
    let same = free_character character character2 (rest ++ r) (rest2 ++ s) c.character c2.character (parts_even r s a b e) in
    parts_same a b same (free_value quote rest rest2 r s behind behind2 (backs_even r s a b same e))

-- ---- a quoted value

abbrev Opens : ℕ → List ℕ → Type 0
Opens place = IsMarkup (word_at quotes place)

abbrev Holds : ℕ → List ℕ → Type 0
Holds place = IsValue (quote_at place)

code_quotes : IsCode Opens 2
code_quotes = code_words quotes refl

pub quoted_stops : (bytes : List ℕ) (n : ℕ) → StopsAt (IsAmong Opens 2) bytes n → StopsAt IsQuoted bytes n
quoted_stops bytes n s = stops_choice Opens Holds 2 bytes n (λ place within. (quote_at place ∷ [], closes refl)) s

pub quoted_behind : (place : ℕ) (bytes rest : List ℕ) (n : ℕ) → place < 2 → Reads (Opens place) bytes rest → StopsAt (IsValue (quote_at place)) rest n → StopsAt IsQuoted bytes n
quoted_behind place bytes rest n within reads s = (leads_choice Opens Holds 2 place bytes rest code_quotes within reads).stops n s

free_quoted : IsPrefixFree IsQuoted
free_quoted = choice_free Opens Holds 2 code_quotes (λ place. free_value (quote_at place))

pub quoted_one : IsQuoted (codes "''")
quoted_one = (1, omega arith, joined (codes "'") (codes "'") (joined [] (codes "'") refl (joined (codes "'") [] refl refl)) (closes refl))

-- what stands behind a name
abbrev pub IsAssigned : List ℕ → Type 0
IsAssigned = IsMarkup (codes " =") ▸ IsQuoted

assigned_one : IsAssigned (codes "=''")
assigned_one = joined (codes "=") (codes "''") (joined [] (codes "=") refl (joined (codes "=") [] refl refl)) quoted_one

-- ---- an attribute

abbrev IsStart : List ℕ → Type 0
IsStart x = (b : ℕ) × (x ≡ b ∷ []) × (is_name_start b ≡ true)

free_start : IsPrefixFree IsStart
free_start x y r s a c e =
    let whole : a.0 ∷ r ≡ c.0 ∷ s = sym (ap (λ t. t ++ r) a.1) ∙ e ∙ ap (λ t. t ++ s) c.1 in
    let head : a.0 ≡ c.0 = cc in
    a.1 ∙ ap (λ b. b ∷ []) head ∙ sym c.1

start_byte : (b : ℕ) → is_name_start b ≡ true → is_name_byte b ≡ true
start_byte b is = grind (arith, nat_tests)

white_no_name : (b : ℕ) → is_white b ≡ true → is_name_byte b ≡ false
white_no_name b is = grind (arith, nat_tests)

equals_outside : (white rest x : List ℕ) → IsWhite white → x ≡ white ++ 61 ∷ rest → BeginsOutside is_name_byte x
equals_outside [] rest x is e = (61, rest, e, refl)
equals_outside (b ∷ white) rest x is e = (b, white ++ 61 ∷ rest, e, white_no_name b (and_split (is_white b) (list_all is_white white) is).0)

assigned_outside : (x : List ℕ) → IsAssigned x → BeginsOutside is_name_byte x
assigned_outside x a =
    let m = a.first in
    let rest = m.second in
    equals_outside m.front (rest.back ++ a.back) x m.first
    (a.are ∙ ap (λ t. t ++ a.back) (m.are ∙ ap (λ t. m.front ++ t) (rest.are ∙ ap (λ t. t ++ rest.back) rest.first)) ∙ append_assoc m.front (61 ∷ rest.back) a.back)

abbrev Whole : List ℕ → Type 0
Whole = IsStart ▸ IsRun is_name_byte ▸ IsAssigned

to_attribute : (x : List ℕ) → Whole x → Any IsAttribute x
to_attribute x h =
    let run = h.second in
    let b = h.first.0 in
    let both : list_all is_name_byte (b ∷ run.front) ≡ true = rw (start_byte b h.first.2, run.first) refl in (
      b ∷ run.front,
      record {
        rest = run.back;
        are = h.are ∙ ap (λ t. t ++ h.back) h.first.1 ∙ ap (λ t. b ∷ t) run.are;
        name_is = record { start = h.first.2; bytes = both };
        value = run.second;
      },
    )

from_named : (name x : List ℕ) (a : IsAttribute name x) → Whole x
from_named [] x a = absurd (false≢true a.name_is.start)
from_named (b ∷ run) x a = record {
  front = b ∷ [];
  back = run ++ a.rest;
  are = a.are;
  first = (b, refl, a.name_is.start);
  second = record { front = run; back = a.rest; are = refl; first = (and_split (is_name_byte b) (list_all is_name_byte run) a.name_is.bytes).1; second = a.value };
}

same_attribute : (bytes : List ℕ) (n : ℕ) → StopsAt Whole bytes n → StopsAt (Any IsAttribute) bytes n
same_attribute bytes n s = stops_same bytes n to_attribute (λ x a. from_named a.0 x a.1) s

attribute_first : (name x : List ℕ) → IsAttribute name x → begins is_name_start x ≡ true
attribute_first [] x a = absurd (false≢true a.name_is.start)
attribute_first (b ∷ run) x a = subst (λ t. begins is_name_start t ≡ true) (sym a.are) a.name_is.start

xmlns_one : IsAttribute (codes "xmlns") (codes "xmlns=''")
xmlns_one = record { rest = codes "=''"; are = refl; name_is = record { start = refl; bytes = refl }; value = assigned_one }

pub attribute_fails : (bytes : List ℕ) → begins is_name_start bytes ≡ false → StopsAt (Any IsAttribute) bytes (length bytes)
attribute_fails bytes fails = record {
  front = [];
  rest = bytes;
  are = refl;
  left_is = refl;
  begins = (codes "xmlns=''", (codes "xmlns", xmlns_one));
  apart = λ p q r d e. by_apart is_name_start bytes p q r fails (attribute_first d.0 (p ++ q) d.1) e;
}

-- the name in front
pub record Named (bytes : List ℕ) : Type 0 where
  pub name : List ℕ
  pub are : bytes ≡ name ++ after_name bytes
  pub is : IsName name
  pub leads : Leads Whole bytes IsAssigned (after_name bytes)

named_cons : (b : ℕ) (bytes : List ℕ) → is_name_start b ≡ true → Named (b ∷ bytes)
named_cons b bytes start =
    let w = front_of is_name_byte after_name refl (λ b t. refl) bytes in
    let same : after_name (b ∷ bytes) ≡ after_name bytes = rw (start_byte b start) refl in
    let one : Leads Whole (b ∷ bytes) (IsRun is_name_byte ▸ IsAssigned) bytes = leads_first (b ∷ bytes) bytes free_start (record { front = b ∷ []; are = refl; is = (b, refl, start) }) in
    let two : Leads (IsRun is_name_byte ▸ IsAssigned) bytes IsAssigned (after_name bytes) = leads_run is_name_byte bytes w.run (after_name bytes) w.are w.is w.outside assigned_outside in
    record {
      name = b ∷ w.run;
      are = ap (λ t. b ∷ t) w.are ∙ ap (λ t. b ∷ (w.run ++ t)) (sym same);
      is = record { start = start; bytes = rw (start_byte b start, w.is) refl };
      leads = subst (Leads Whole (b ∷ bytes) IsAssigned) (sym same) (leads_then (b ∷ bytes) bytes (after_name bytes) one two);
    }

pub named_of : (bytes : List ℕ) → begins is_name_start bytes ≡ true → Named bytes
named_of [] start = absurd (false≢true start)
named_of (b ∷ bytes) start = named_cons b bytes start

pub attribute_stops : {bytes behind : List ℕ} {n : ℕ} → begins is_name_start bytes ≡ true → behind ≡ after_name bytes → StopsAt IsAssigned behind n → StopsAt (Any IsAttribute) bytes n
attribute_stops {bytes = bytes} {n = n} start e s = same_attribute bytes n ((named_of bytes start).leads.stops n (subst (λ t. StopsAt IsAssigned t n) e s))

pub attribute_reads : {bytes behind last : List ℕ} (n : Named bytes) (namespace : Bool) → bytes ≡ n.name ++ behind → namespace ≡ is_xmlns n.name → Reads IsAssigned behind last → ReadsAttribute bytes namespace last
attribute_reads {last = last} n namespace are is r = record {
  name = n.name;
  attribute = n.name ++ r.front;
  are = are ∙ ap (λ t. n.name ++ t) r.are ∙ sym (append_assoc n.name r.front last);
  is = record { rest = r.front; are = refl; name_is = n.is; value = r.is };
  namespace_is = is;
}

-- an attribute has one name, and begins no other
assigned_free : IsPrefixFree IsAssigned
assigned_free = then_free (free_markup (codes " =") refl) free_quoted

abbrev attribute_parts : (name x : List ℕ) → IsAttribute name x → Then (IsRun is_name_byte) IsAssigned x
attribute_parts name x a = record { front = name; back = a.rest; are = a.are; first = a.name_is.bytes; second = a.value }

pub attribute_once : IsOnce IsAttribute
attribute_once m n x y r s a b e =
    let pa = attribute_parts m x a in
    let pb = attribute_parts n y b in
    let same = run_parts is_name_byte r s pa pb (assigned_outside a.rest a.value) (assigned_outside b.rest b.value) e in
    (same.0, parts_same pa pb same.0 (assigned_free a.rest b.rest r s a.value b.value same.1))

-- ---- all attributes

-- what stands behind white bytes
abbrev IsDark : Bool → List ℕ → Type 0
IsDark seen x = ((seen ≡ true) × (x ≡ codes ">")) ⊎ ((name : List ℕ) × (IsAttribute name ▸ IsAttributes (seen || is_xmlns name)) x)

or_true : (t : Bool) → (t || true) ≡ true
or_true true = refl
or_true false = refl

end_one : IsMarkup (codes " >") (codes ">")
end_one = joined [] (codes ">") refl (joined (codes ">") [] refl refl)

rest_one : (seen : Bool) → IsAttributes seen (codes " xmlns=''>")
rest_one seen = goes (codes " ") (codes "xmlns") (codes "xmlns=''") (codes ">") refl refl xmlns_one (ends (or_true seen) end_one) refl

dark_run : (seen : Bool) (x : List ℕ) → IsAttributes seen x → Then (IsRun is_white) (IsDark seen) x
dark_run seen x (ends is m) =
    let t = m.second in
    record { front = m.front; back = codes ">"; are = m.are ∙ ap (λ k. m.front ++ k) (t.are ∙ ap (λ k. t.front ++ k) t.second ∙ append-nil t.front ∙ t.first); first = m.first; second = inl (is, refl) }
dark_run seen x (goes white name attribute rest is some_white a behind are) =
    record { front = white; back = attribute ++ rest; are = are; first = is; second = inr (name, record { front = attribute; back = rest; are = refl; first = a; second = behind }) }

start_dark : (b : ℕ) → is_name_start b ≡ true → is_white b ≡ false
start_dark b is = grind (arith, nat_tests)

begins_outside : (x : List ℕ) → begins is_name_start x ≡ true → (t : List ℕ) → BeginsOutside is_white (x ++ t)
begins_outside [] e t = absurd (false≢true e)
begins_outside (b ∷ x) e t = (b, x ++ t, refl, start_dark b e)

dark_outside : (seen : Bool) (x : List ℕ) → IsDark seen x → BeginsOutside is_white x
dark_outside seen x (inl h) = (62, [], h.1, refl)
dark_outside seen x (inr h) =
    let out = begins_outside h.1.front (attribute_first h.0 h.1.front h.1.first) h.1.back in
    (out.0, out.1, h.1.are ∙ out.2, out.3)

-- the tag doesn't end here
abbrev pub IsOpen : Bool → List ℕ → Type 0
IsOpen seen dark = seen ≡ true → BeginsOtherwise 62 dark

elsewhere_end : (seen : Bool) (dark : List ℕ) → IsOpen seen dark → IsElsewhere (λ x. (seen ≡ true) × (x ≡ codes ">")) dark
elsewhere_end seen dark going p q r d e = elsewhere_byte 62 dark p q r [] (going d.0) d.1 e

attribute_part : (seen : Bool) (dark : List ℕ) (n : ℕ) → StopsAt (Any IsAttribute) dark n → StopsAt (λ x. (name : List ℕ) × (IsAttribute name ▸ IsAttributes (seen || is_xmlns name)) x) dark n
attribute_part seen dark n s =
    stops_prefix dark n (λ x h. (h.1.front, h.1.back, h.1.are, (h.0, h.1.first)))
    (λ x a. (codes " xmlns=''>", (a.0, joined x (codes " xmlns=''>") a.1 (rest_one (seen || is_xmlns a.0))))) s

-- white bytes, and what stands behind them
dark_attributes : (seen : Bool) (white x : List ℕ) → IsWhite white → begins is_white white ≡ true → IsDark seen x → IsAttributes seen (white ++ x)
dark_attributes seen white x is some_white (inl h) = ends h.0 (joined white x is (nothing_behind x h.1))
dark_attributes seen white x is some_white (inr h) = goes white h.0 h.1.front h.1.back is some_white h.1.first h.1.second (ap (λ t. white ++ t) h.1.are)

-- a stop behind white bytes
stop_behind_white : (seen : Bool) (rest white dark : List ℕ) (n : ℕ) → rest ≡ white ++ dark → IsWhite white → begins is_white white ≡ true → IsOutside is_white dark → StopsAt (IsDark seen) dark n → StopsAt (IsAttributes seen) rest n
stop_behind_white seen rest white dark n are is some_white outside s =
    let run = (leads_run is_white rest white dark are is outside (dark_outside seen)).stops n s in
    record {
      front = white ++ s.front;
      rest = s.rest;
      are = are ∙ ap (λ t. white ++ t) s.are ∙ sym (append_assoc white s.front s.rest);
      left_is = s.left_is;
      begins = (s.begins.0, subst (IsAttributes seen) (sym (append_assoc white s.front s.begins.0)) (dark_attributes seen white (s.front ++ s.begins.0) is some_white s.begins.1));
      apart = λ p q r d e. run.apart p q r (dark_run seen (p ++ q) d) e;
    }

-- a stop in an attribute
pub attributes_stop : (seen : Bool) (rest white dark : List ℕ) (n : ℕ) → rest ≡ white ++ dark → IsWhite white → begins is_white white ≡ true → IsOutside is_white dark → IsOpen seen dark → StopsAt (Any IsAttribute) dark n
    → StopsAt (IsAttributes seen) rest n
attributes_stop seen rest white dark n are is some_white outside going s =
    stop_behind_white seen rest white dark n are is some_white outside
    (stops_same dark n (λ x. flipped) (λ x. flipped) (stops_beside dark n (elsewhere_end seen dark going) (attribute_part seen dark n s)))

-- an attribute, and what follows it
dark_after : (seen : Bool) (name attribute : List ℕ) → IsAttribute name attribute → After (IsDark seen) attribute (IsAttributes (seen || is_xmlns name))
dark_after seen name attribute a = record {
  into = λ y b. inr (name, record { front = attribute; back = y; are = refl; first = a; second = b });
  out = λ d r s l e. dark_out seen name attribute a d r s l e;
} where
  dark_out : (seen : Bool) (name attribute : List ℕ) → IsAttribute name attribute → (d r s : List ℕ) → IsDark seen d → d ++ r ≡ attribute ++ s → (y : List ℕ) × (d ≡ attribute ++ y) × IsAttributes (seen || is_xmlns name) y
  dark_out seen name attribute a d r s (inl h) e =
      let out = begins_outside attribute (attribute_first name attribute a) s in
      let first = first_byte is_name_start attribute (attribute_first name attribute a) in
      let whole : 62 ∷ r ≡ first.0 ∷ (first.1 ++ s) = ap (λ t. t ++ r) (sym h.1) ∙ e ∙ ap (λ t. t ++ s) first.2 in
      let head : 62 ≡ first.0 = cc in
      absurd (false≢true (ap is_name_start head ∙ first.3))
  dark_out seen name attribute a d r s (inr h) e =
      let t = h.1 in
      let whole : t.front ++ (t.back ++ r) ≡ attribute ++ s = sym (append_assoc t.front t.back r) ∙ ap (λ k. k ++ r) (sym t.are) ∙ e in
      let same = attribute_once h.0 name t.front attribute (t.back ++ r) s t.first a whole in
      (t.back, t.are ∙ ap (λ f. f ++ t.back) same.1, subst (λ m. IsAttributes (seen || is_xmlns m) t.back) same.0 t.second)

pub attributes_behind : (seen : Bool) (rest white dark behind : List ℕ) (n : ℕ) (namespace : Bool) → rest ≡ white ++ dark → IsWhite white → begins is_white white ≡ true → IsOutside is_white dark → ReadsAttribute dark namespace behind
    → StopsAt (IsAttributes (seen || namespace)) behind n → StopsAt (IsAttributes seen) rest n
attributes_behind seen rest white dark behind n namespace are is some_white outside a s =
    let there : StopsAt (IsAttributes (seen || is_xmlns a.name)) behind n = subst (λ t. StopsAt (IsAttributes (seen || t)) behind n) a.namespace_is s in
    stop_behind_white seen rest white dark n are is some_white outside ((after_leads dark a.attribute behind a.are (dark_after seen a.name a.attribute a.is)).stops n there)

apart_dark : (seen : Bool) (rest p q r : List ℕ) → IsOutside is_white rest → IsOpen seen rest → IsAttributes seen (p ++ q) → rest ≡ p ++ r → (length rest ≤ length r) × (q ≢ [])
apart_dark seen rest [] [] r outside going d e = absurd (nothing (dark_run seen [] d)) where
  nothing : Then (IsRun is_white) (IsDark seen) [] → ⊥
  nothing h = let out = dark_outside seen h.back h.second in empty_append h.front h.back out.0 out.1 out.2 h.are where
    empty_append : (a b : List ℕ) (c : ℕ) (t : List ℕ) → b ≡ c ∷ t → [] ≡ a ++ b → ⊥
    empty_append [] b c t is e = absurd (cc)
    empty_append (x ∷ a) b c t is e = absurd (cc)
apart_dark seen rest [] (c ∷ q) r outside going d e = (omega (arith, ap length e), no_cons (c ∷ q) c q refl)
apart_dark seen [] (b ∷ p) q r outside going d e = absurd (cc)
apart_dark seen (c ∷ rest) (b ∷ p) q r outside going (ends is m) e = absurd (at_end c b rest p q r seen is outside going m e) where
  at_end : (c b : ℕ) (rest p q r : List ℕ) (seen : Bool) → seen ≡ true → is_white c ≡ false → IsOpen seen (c ∷ rest) → IsMarkup (codes " >") (b ∷ (p ++ q)) → c ∷ rest ≡ b ∷ (p ++ r) → ⊥
  at_end c b rest p q r seen is outside going m e = at_front m.front m.first m.second.front m.second.first m.second.back m.are m.second.are where
    at_front : (white : List ℕ) → IsWhite white → (less : List ℕ) → less ≡ 62 ∷ [] → (back : List ℕ) → b ∷ (p ++ q) ≡ white ++ m.back → m.back ≡ less ++ back → ⊥
    at_front [] w less l back whole is2 =
        let all : b ∷ (p ++ q) ≡ 62 ∷ back = whole ∙ is2 ∙ ap (λ t. t ++ back) l in
        let head : b ≡ 62 = cc in
        let same : c ≡ b = cc in
        going is (same ∙ head)
    at_front (x ∷ white) w less l back whole is2 =
        let head : b ≡ x = cc in
        let same : c ≡ b = cc in
        false≢true (sym outside ∙ ap is_white (same ∙ head) ∙ (and_split (is_white x) (list_all is_white white) w).0)
apart_dark seen (c ∷ rest) (b ∷ p) q r outside going (goes white name attribute others is some_white a behind are) e =
    let first = first_byte is_white white some_white in
    let whole : b ∷ (p ++ q) ≡ first.0 ∷ (first.1 ++ (attribute ++ others)) = are ∙ ap (λ t. t ++ (attribute ++ others)) first.2 in
    let head : b ≡ first.0 = cc in
    let same : c ≡ b = cc in
    absurd (false≢true (sym outside ∙ ap is_white (same ∙ head) ∙ first.3))

-- no white byte, and no end of the tag
pub attributes_stop_dark : (seen : Bool) (rest : List ℕ) → IsOutside is_white rest → IsOpen seen rest → StopsAt (IsAttributes seen) rest (length rest)
attributes_stop_dark seen rest outside going = record {
  front = [];
  rest = rest;
  are = refl;
  left_is = refl;
  begins = (codes " xmlns=''>", rest_one seen);
  apart = λ p q r d e. apart_dark seen rest p q r outside going d e;
}

-- what was read of the attributes, and what is to come
pub record Along (bytes : List ℕ) (seen : Bool) (rest : List ℕ) : Type 0 where
  pub front : List ℕ
  pub are : bytes ≡ front ++ rest
  pub into : (y : List ℕ) → IsAttributes seen y → IsAttributes false (front ++ y)
  pub stops : (n : ℕ) → StopsAt (IsAttributes seen) rest n → StopsAt (IsAttributes false) bytes n

pub along_more : (bytes : List ℕ) (seen namespace : Bool) (rest white dark behind : List ℕ) → Along bytes seen rest → rest ≡ white ++ dark → IsWhite white → begins is_white white ≡ true → IsOutside is_white dark → ReadsAttribute dark namespace behind
    → Along bytes (seen || namespace) behind
along_more bytes seen namespace rest white dark behind along are is some_white outside a = record {
  front = along.front ++ (white ++ a.attribute);
  are = along.are ∙ ap (λ t. along.front ++ t) (are ∙ ap (λ t. white ++ t) a.are ∙ sym (append_assoc white a.attribute behind)) ∙ sym (append_assoc along.front (white ++ a.attribute) behind);
  into = λ y b.
      let there : IsAttributes (seen || is_xmlns a.name) y = subst (λ t. IsAttributes (seen || t) y) a.namespace_is b in
      subst (IsAttributes false) (ap (λ t. along.front ++ t) (sym (append_assoc white a.attribute y)) ∙ sym (append_assoc along.front (white ++ a.attribute) y))
      (along.into (white ++ (a.attribute ++ y)) (goes white a.name a.attribute y is some_white a.is there refl));
  stops = λ n s. along.stops n (attributes_behind seen rest white dark behind n namespace are is some_white outside a s);
}

pub along_end : (bytes : List ℕ) (seen : Bool) (rest white dark behind : List ℕ) → Along bytes seen rest → rest ≡ white ++ dark → IsWhite white → seen ≡ true → dark ≡ 62 ∷ behind → Reads (IsAttributes false) bytes behind
along_end bytes seen rest white dark behind along are is seen_is e = record {
  front = along.front ++ (white ++ codes ">");
  are = along.are ∙ ap (λ t. along.front ++ t) (are ∙ ap (λ t. white ++ t) e ∙ sym (append_assoc white (codes ">") behind)) ∙ sym (append_assoc along.front (white ++ codes ">") behind);
  is = along.into (white ++ codes ">") (ends seen_is (joined white (codes ">") is (joined (codes ">") [] refl refl)));
}

begins_run : (white : List ℕ) → IsWhite white → (length white ≡ 0 → ⊥) → begins is_white white ≡ true
begins_run [] is long = absurd (long refl)
begins_run (b ∷ white) is long = (and_split (is_white b) (list_all is_white white) is).0

-- some white bytes stand before what is shorter
pub some_white_run : (rest white dark : List ℕ) → rest ≡ white ++ dark → IsWhite white → (length dark ≡ length rest → ⊥) → begins is_white white ≡ true
some_white_run rest white dark are is other =
    let long = ap length are ∙ length-append white dark in
    begins_run white is (λ none. other (omega (arith, long, none)))

-- what is as long as the whole is the whole
pub no_white : (rest white dark : List ℕ) → rest ≡ white ++ dark → length dark ≡ length rest → dark ≡ rest
no_white rest [] dark are same = sym are
no_white rest (b ∷ white) dark are same =
    let long = ap length are ∙ length-append (b ∷ white) dark in
    absurd (omega (arith, long, same))

pub quote_is : (place : ℕ) → place < 2 → IsQuote (quote_at place)
quote_is zero within = inl refl
quote_is (suc zero) within = inr refl
quote_is (suc (suc place)) within = absurd (omega arith)

pub attributes_one : (y : List ℕ) × IsAttributes false y
attributes_one = (codes " xmlns=''>", rest_one false)

end_free : IsPrefixFree (IsMarkup (codes " >"))
end_free = free_markup (codes " >") refl

end_attribute : (seen : Bool) (x r white attribute others s : List ℕ) (name : List ℕ) → seen ≡ true → IsMarkup (codes " >") x → IsWhite white → IsAttribute name attribute → x ++ r ≡ white ++ (attribute ++ others) ++ s → ⊥
end_attribute seen x r white attribute others s name is m w a e =
    let end = dark_run seen x (ends is m) in
    let out = begins_outside attribute (attribute_first name attribute a) (others ++ s) in
    let t = m.second in
    let ex : x ++ r ≡ m.front ++ 62 ∷ (t.back ++ r) = ap (λ k. k ++ r) (m.are ∙ ap (λ k. m.front ++ k) (t.are ∙ ap (λ k. k ++ t.back) t.first)) ∙ append_assoc m.front (62 ∷ t.back) r in
    let ey : white ++ (attribute ++ others) ++ s ≡ white ++ out.0 ∷ out.1 = append_assoc white (attribute ++ others) s ∙ ap (λ k. white ++ k) (append_assoc attribute others s) ∙ ap (λ k. white ++ k) out.2 in
    let once = run_once is_white m.front white 62 out.0 (t.back ++ r) out.1 m.first w refl out.3 (sym ex ∙ e ∙ ey) in
    let first = first_byte is_name_start attribute (attribute_first name attribute a) in
    let tails : 62 ∷ (t.back ++ r) ≡ first.0 ∷ (first.1 ++ (others ++ s)) = once.1 ∙ sym out.2 ∙ ap (λ k. k ++ (others ++ s)) first.2 in
    let head : 62 ≡ first.0 = cc in
    false≢true (ap is_name_start head ∙ first.3)

-- no attributes of a tag begin others
pub free_attributes : (seen : Bool) → IsPrefixFree (IsAttributes seen)
free_attributes seen x y r s (ends is m) (ends is2 m2) e = end_free x y r s m m2 e
free_attributes seen x y r s (ends is m) (goes white name attribute others w some_white a behind are) e =
    absurd (end_attribute seen x r white attribute others s name is m w a (e ∙ ap (λ t. t ++ s) are))
free_attributes seen x y r s (goes white name attribute others w some_white a behind are) (ends is m) e =
    absurd (end_attribute seen y s white attribute others r name is m w a (sym e ∙ ap (λ t. t ++ r) are))
free_attributes seen x y r s (goes white name attribute others w some_white a behind are) (goes white2 name2 attribute2 others2 w2 some_white2 a2 behind2 are2) e =
    let oa = begins_outside attribute (attribute_first name attribute a) (others ++ r) in
    let ob = begins_outside attribute2 (attribute_first name2 attribute2 a2) (others2 ++ s) in
    let ex : x ++ r ≡ white ++ (attribute ++ (others ++ r)) = ap (λ t. t ++ r) are ∙ append_assoc white (attribute ++ others) r ∙ ap (λ t. white ++ t) (append_assoc attribute others r) in
    let ey : y ++ s ≡ white2 ++ (attribute2 ++ (others2 ++ s)) = ap (λ t. t ++ s) are2 ∙ append_assoc white2 (attribute2 ++ others2) s ∙ ap (λ t. white2 ++ t) (append_assoc attribute2 others2 s) in
    let whole = sym ex ∙ e ∙ ey in
    let once = run_once is_white white white2 oa.0 ob.0 oa.1 ob.1 w w2 oa.3 ob.3 (ap (λ t. white ++ t) (sym oa.2) ∙ whole ∙ ap (λ t. white2 ++ t) ob.2) in
    let inner = behind_same white white2 (attribute ++ (others ++ r)) (attribute2 ++ (others2 ++ s)) once.0 whole in
    let same = attribute_once name name2 attribute attribute2 (others ++ r) (others2 ++ s) a a2 inner in
    let last = behind_same attribute attribute2 (others ++ r) (others2 ++ s) same.1 inner in
    let there : IsAttributes (seen || is_xmlns name2) others = subst (λ m. IsAttributes (seen || is_xmlns m) others) same.0 behind in
    let next = free_attributes (seen || is_xmlns name2) others others2 r s there behind2 last in
    are ∙ ap (λ w. w ++ (attribute ++ others)) once.0 ∙ ap (λ k. white2 ++ (k ++ others)) same.1 ∙ ap (λ k. white2 ++ (attribute2 ++ k)) next ∙ sym are2
