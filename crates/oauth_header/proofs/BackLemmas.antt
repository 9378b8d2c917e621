-- A header's value that was written from pairs is read as these pairs.
use Rattle.std.proofs.Common.{◌≡◌, ℕ, ◌+◌, ◌-◌, ◌<◌, leb, Bool, true, false, cond, not, ◌||◌, ◌==◌, List, [], ◌∷◌, ◌++◌, length, take, drop, get_or, map, filter, codes, refl, sym, ap, subst, ◌∙◌, arith, length-append}
use Rattle.std.specs.List.{AllByRecursion, list_all, flat_map}
use Rattle.std.specs.Cmp.Derive.{both_true}
use Rattle.std.proofs.Math.Seq.{drop-append-add, take-append_seam}
use Rattle.std.proofs.lemmas.Bool.{cond-true}
use Rattle.std.proofs.lemmas.Bool.Decides.{nat_tests}
use Rattle.std.proofs.lemmas.List.Elements.{recursion_from_All}
use Rattle.percent_encoding.specs.Percent.{percent_decode}
use Rattle.lti_outside.specs.declared.pairs.Pair.{Pair}
use Rattle.lti_outside.proofs.BoolLemmas.{and_split}
use Rattle.oauth_text.specs.Escape.{escape}
use Rattle.oauth_text.specs.Form.{AreText}
use Rattle.oauth_header.specs.Item.{is_name_byte, is_value_byte, are_name_bytes, name_len, raw_name, assigned, is_quoted, unquoted, raw_value, pair_of, is_realm, IsEncoded, IsItem}
use Rattle.oauth_text.specs.Blanks.{is_blank, trim_front, trim_end}
use Rattle.oauth_header.specs.Items.{Placed, items_from, pieces}
use Rattle.oauth_header.specs.Header.{is_oauth, items_of, AreItems, IsHeader, header_pairs}
use Rattle.oauth_header.specs.Written.{item_text, header_text, can_stand, can_be_written}
use Rattle.oauth_text.proofs.TrimLemmas.{trim_front_done, trim_end_done}
use Rattle.oauth_header.proofs.EscapedLemmas.{percent_decode-escape, name_bytes-escape, are_escapes-escape, some-escape, longer}
use Rattle.oauth_header.proofs.CutLemmas.{IsPlain, next, spaced, item_text-is, pieces_written, is_some, trim, items_bytes}

-- ---- an item

no_equals : (b : ℕ) → is_name_byte b ≡ true → (b == 61) ≡ false
no_equals b name = grind (arith, nat_tests)

no_blank : (b : ℕ) → is_name_byte b ≡ true → is_blank b ≡ false
no_blank b name = grind (arith, nat_tests)

value_byte : (b : ℕ) → is_name_byte b ≡ true → is_value_byte b ≡ true
value_byte b name = grind (arith, nat_tests)

value_bytes : (text : List ℕ) → list_all is_name_byte text ≡ true → list_all is_value_byte text ≡ true
value_bytes [] bytes = refl
value_bytes (b ∷ text) bytes =
    let both = and_split (is_name_byte b) (list_all is_name_byte text) bytes in
    both_true (value_byte b both.0) (value_bytes text both.1)

name_len-is : (name rest : List ℕ) → list_all is_name_byte name ≡ true → name_len (name ++ 61 ∷ rest) ≡ length name
name_len-is [] rest bytes = refl
name_len-is (b ∷ name) rest bytes =
    let both = and_split (is_name_byte b) (list_all is_name_byte name) bytes in
    rw (no_equals b both.0, name_len-is name rest both.1) (omega arith)

raw_name-is : (name rest : List ℕ) → list_all is_name_byte name ≡ true → raw_name (name ++ 61 ∷ rest) ≡ name
raw_name-is name rest bytes = ap (λ n. take n (name ++ 61 ∷ rest)) (name_len-is name rest bytes) ∙ take-append_seam name (61 ∷ rest)

assigned-is : (name rest : List ℕ) → list_all is_name_byte name ≡ true → assigned (name ++ 61 ∷ rest) ≡ rest
assigned-is name rest bytes = ap (λ n. drop (n + 1) (name ++ 61 ∷ rest)) (name_len-is name rest bytes) ∙ drop-append-add name (61 ∷ rest) 1

last_at : (text : List ℕ) → get_or (text ++ 34 ∷ []) (length text) 0 ≡ 34
last_at [] = refl
last_at (b ∷ text) = last_at text

last_place : (text : List ℕ) → length (text ++ 34 ∷ []) - 1 ≡ length text
last_place text = omega (arith, length-append text (34 ∷ []))

some_place : (text : List ℕ) → leb 1 (length (text ++ 34 ∷ [])) ≡ true
some_place [] = refl
some_place (b ∷ text) = grind (arith, nat_tests)

is_quoted-is : (text : List ℕ) → is_quoted (34 ∷ (text ++ 34 ∷ [])) ≡ true
is_quoted-is text =
    both_true (some_place text) (ap (λ b. b == 34) (ap (λ i. get_or (text ++ 34 ∷ []) i 0) (last_place text) ∙ last_at text))

unquoted-is : (text : List ℕ) → unquoted (34 ∷ (text ++ 34 ∷ [])) ≡ text
unquoted-is text = ap (λ n. take n (text ++ 34 ∷ [])) (last_place text) ∙ take-append_seam text (34 ∷ [])

-- an item with its name and its value
pub record IsBack (item : List ℕ) (pair : Pair) : Type 0 where
  pub name : raw_name item ≡ escape pair.name
  pub quoted : is_quoted (assigned item) ≡ true
  pub value : raw_value item ≡ escape pair.value

pub back_item : (pair : Pair) → IsPlain pair → IsBack (item_text pair) pair
back_item pair plain =
    let name = escape pair.name in
    let value = escape pair.value in
    let rest = assigned-is name (34 ∷ (value ++ 34 ∷ [])) plain.name in
    subst (λ (item : List ℕ). IsBack item pair) (sym (item_text-is pair))
    (record {
      name = raw_name-is name (34 ∷ (value ++ 34 ∷ [])) plain.name;
      quoted = ap is_quoted rest ∙ is_quoted-is value;
      value = ap unquoted rest ∙ unquoted-is value;
    })

-- the pair can stand in a header, and its name and value are texts
pub record IsGood (pair : Pair) : Type 0 where
  pub text : AreText pair
  pub stands : can_stand pair ≡ true

small_name : (pair : Pair) → IsGood pair → AllByRecursion (λ b. b < 256) pair.name
small_name pair good = recursion_from_All (λ b. b < 256) pair.name good.text.name_bytes

small_value : (pair : Pair) → IsGood pair → AllByRecursion (λ b. b < 256) pair.value
small_value pair good = recursion_from_All (λ b. b < 256) pair.value good.text.value_bytes

pub plain_pair : (pair : Pair) → IsGood pair → IsPlain pair
plain_pair pair good = record {
  name = name_bytes-escape pair.name (small_name pair good);
  value = name_bytes-escape pair.value (small_value pair good);
}

pub pair_of-back : (pair : Pair) → IsGood pair → pair_of (item_text pair) ≡ pair
pair_of-back pair good =
    let back = back_item pair (plain_pair pair good) in
    let name : percent_decode (raw_name (item_text pair)) ≡ pair.name = ap percent_decode back.name ∙ percent_decode-escape pair.name (small_name pair good) in
    let value : percent_decode (raw_value (item_text pair)) ≡ pair.value = ap percent_decode back.value ∙ percent_decode-escape pair.value (small_value pair good) in
    ap (λ n. record { name = n; value = percent_decode (raw_value (item_text pair)) }) name ∙ ap (λ v. record { name = pair.name; value = v }) value

some_name : (pair : Pair) → IsGood pair → not (length (escape pair.name) == 0) ≡ true
some_name pair good =
    some-escape pair.name (small_name pair good) (and_split (not (length pair.name == 0)) (not (is_realm pair)) good.stands).0

pub IsItem-back : (pair : Pair) → IsGood pair → IsItem (item_text pair)
IsItem-back pair good =
    let plain = plain_pair pair good in
    let back = back_item pair plain in
    record {
      written = record {
        quoted = back.quoted;
        name = ap are_name_bytes back.name ∙ both_true (some_name pair good) plain.name;
        value = ap (list_all is_value_byte) back.value ∙ value_bytes (escape pair.value) plain.value;
      };
      name = subst IsEncoded (sym back.name) (record {
        escapes = are_escapes-escape pair.name (small_name pair good);
        utf8 = rw (percent_decode-escape pair.name (small_name pair good)) good.text.name;
      });
      value = λ _. subst IsEncoded (sym back.value) (record {
        escapes = are_escapes-escape pair.value (small_value pair good);
        utf8 = rw (percent_decode-escape pair.value (small_value pair good)) good.text.value;
      });
    }

-- ---- the items

trim_name : (name rest : List ℕ) → not (length name == 0) ≡ true → list_all is_name_byte name ≡ true → trim_front (name ++ rest) ≡ name ++ rest
trim_name [] rest some bytes = absurd (cc)
trim_name (b ∷ name) rest some bytes = trim_front_done b (name ++ rest) (no_blank b (and_split (is_name_byte b) (list_all is_name_byte name) bytes).0)

trim_spaced : (pair : Pair) → IsGood pair → trim (spaced pair) ≡ item_text pair
trim_spaced pair good =
    let front : trim_front (item_text pair) ≡ item_text pair =
    ap trim_front (item_text-is pair) ∙ trim_name (escape pair.name) (61 ∷ 34 ∷ (escape pair.value ++ 34 ∷ [])) (some_name pair good) (plain_pair pair good).name ∙ sym (item_text-is pair) in
    ap trim_end front ∙ trim_end_done ((escape pair.name ++ codes "=\"") ++ escape pair.value) 34 refl

some_item : (pair : Pair) → IsGood pair → is_some (item_text pair) ≡ true
some_item pair good = ap is_some (item_text-is pair) ∙ longer (escape pair.name) (61 ∷ 34 ∷ (escape pair.value ++ 34 ∷ [])) (some_name pair good)

all_trimmed : (pairs : List Pair) → AllByRecursion IsGood pairs → filter is_some (map trim (map spaced pairs)) ≡ map item_text pairs
all_trimmed [] good = refl
all_trimmed (pair ∷ pairs) good =
    rw (trim_spaced pair good.0, some_item pair good.0) (ap (λ items. item_text pair ∷ items) (all_trimmed pairs good.1))

all_plain : (pairs : List Pair) → AllByRecursion IsGood pairs → AllByRecursion IsPlain pairs
all_plain [] good = tt
all_plain (pair ∷ pairs) good = (plain_pair pair good.0, all_plain pairs good.1)

or_true : (t : Bool) → (t || true) ≡ true
or_true true = refl
or_true false = refl

oauth : (rest : List ℕ) → is_oauth (codes "OAuth " ++ rest) ≡ true
oauth rest = or_true (length (codes "OAuth " ++ rest) == 5)

nothing : filter is_some (map trim (pieces false [])) ≡ []
unfolding pieces
nothing = refl

items_written : (pairs : List Pair) → AllByRecursion IsGood pairs → map (λ (item : Placed). item.bytes) (items_of (header_text pairs)) ≡ map item_text pairs
items_written [] good = items_bytes 5 (pieces false []) ∙ nothing
items_written (pair ∷ pairs) good =
    let text = item_text pair ++ flat_map next pairs in
    ap (λ (t : Bool). map (λ (item : Placed). item.bytes) (cond t (items_from 5 (32 ∷ text)) [])) (oauth text)
    ∙ items_bytes 5 (pieces false (32 ∷ text))
    ∙ ap (λ ps. filter is_some (map trim ps)) (pieces_written pair pairs (all_plain (pair ∷ pairs) good))
    ∙ all_trimmed (pair ∷ pairs) good

-- ---- their pairs

all_items : (pairs : List Pair) → AllByRecursion IsGood pairs → AllByRecursion IsItem (map item_text pairs)
all_items [] good = tt
all_items (pair ∷ pairs) good = (IsItem-back pair good.0, all_items pairs good.1)

are_items : (items : List Placed) → AllByRecursion IsItem (map (λ (item : Placed). item.bytes) items) → AreItems items
are_items [] all = tt
are_items (item ∷ items) all = (all.0, are_items items all.1)

pairs_by_bytes : (items : List Placed) → map (λ (item : Placed). pair_of item.bytes) items ≡ map pair_of (map (λ (item : Placed). item.bytes) items)
pairs_by_bytes [] = refl
pairs_by_bytes (item ∷ items) = ap (λ ps. pair_of item.bytes ∷ ps) (pairs_by_bytes items)

all_pairs : (pairs : List Pair) → AllByRecursion IsGood pairs → filter (λ pair. not (is_realm pair)) (map pair_of (map item_text pairs)) ≡ pairs
all_pairs [] good = refl
all_pairs (pair ∷ pairs) good =
    let other : not (is_realm pair) ≡ true = (and_split (not (length pair.name == 0)) (not (is_realm pair)) good.0.stands).1 in
    let rest = filter (λ (p : Pair). not (is_realm p)) (map pair_of (map item_text pairs)) in
    ap (λ (p : Pair). cond (not (is_realm p)) (p ∷ rest) rest) (pair_of-back pair good.0)
    ∙ cond-true (not (is_realm pair)) (pair ∷ rest) rest other
    ∙ ap (λ ps. pair ∷ ps) (all_pairs pairs good.1)

pub IsHeader-written : (pairs : List Pair) → AllByRecursion IsGood pairs → IsHeader (header_text pairs)
IsHeader-written pairs good =
    are_items (items_of (header_text pairs)) (subst (λ (texts : List (List ℕ)). AllByRecursion IsItem texts) (sym (items_written pairs good)) (all_items pairs good))

pub header_pairs-written : (pairs : List Pair) → AllByRecursion IsGood pairs → header_pairs (header_text pairs) ≡ pairs
header_pairs-written pairs good =
    ap (filter (λ pair. not (is_realm pair))) (pairs_by_bytes (items_of (header_text pairs)) ∙ ap (map pair_of) (items_written pairs good))
    ∙ all_pairs pairs good

pub good_pairs : (pairs : List Pair) → AllByRecursion AreText pairs → can_be_written pairs ≡ true → AllByRecursion IsGood pairs
good_pairs [] texts stand = tt
good_pairs (pair ∷ pairs) texts stand =
    let both = and_split (can_stand pair) (can_be_written pairs) stand in
    (record { text = texts.0; stands = both.0 }, good_pairs pairs texts.1 both.1)
