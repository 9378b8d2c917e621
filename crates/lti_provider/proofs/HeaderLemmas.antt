-- The bytes of an Authorization header that was written from pairs.
use Rattle.std.proofs.Common.{◌≡◌, ℕ, ◌<◌, not, Bool, true, false, cond, List, [], ◌∷◌, ◌++◌, reverse, codes, IsUtf8, refl, sym, ap, ◌∙◌, subst, arith, append_assoc}
use Rattle.std.specs.List.{AllByRecursion, list_all, flat_map}
use Rattle.std.proofs.lemmas.Bool.Decides.{nat_tests}
use Rattle.std.proofs.lemmas.List.{reverse-append, reverse-reverse}
use Rattle.std.proofs.lemmas.List.Elements.{recursion_from_All}
use Rattle.std.proofs.lemmas.Slice.Eq.{bytes_eq-Decides}
use Rattle.lti_outside.specs.declared.pairs.Pair.{Pair}
use Rattle.lti_outside.proofs.BoolLemmas.{and_split}
use Rattle.oauth_text.specs.Escape.{escape}
use Rattle.oauth_header.specs.Header.{AreItems, pairs_in}
use Rattle.oauth_header.specs.Item.{is_name_byte, pair_of, is_realm}
use Rattle.oauth_header.specs.Items.{Placed}
use Rattle.oauth_header.specs.Written.{item_text, header_text}
use Rattle.oauth_header.proofs.EscapedLemmas.{name_bytes-escape}
use Rattle.oauth_header.proofs.CutLemmas.{next}
use Rattle.oauth_header.proofs.WrittenLemmas.{separator, header_text-push}
use Rattle.http_wire.specs.Headers.{is_text_byte, trim_end}
use Rattle.http_wire.specs.Written.{is_trimmed, is_value}
use Rattle.http_wire.proofs.BackBytes.{all_join}
use Rattle.http_wire.proofs.BackHost.{and_join}
use Rattle.lti_provider.proofs.TextBytes.{text_bytes}

-- the name and the value are bytes
pub record AreBytes (pair : Pair) : Type 0 where
  pub name : AllByRecursion (λ b. b < 256) pair.name
  pub value : AllByRecursion (λ b. b < 256) pair.value

small : (text : List ℕ) → IsUtf8 text → AllByRecursion (λ b. b < 256) text
small text utf8 = recursion_from_All (λ b. b < 256) text (text_bytes text utf8)

-- what is read from a header is bytes
pub read_bytes : (items : List Placed) → AreItems items → AllByRecursion AreBytes (pairs_in items)
read_bytes [] good = tt
read_bytes (item ∷ items) good = by (is_realm (pair_of item.bytes)) refl (read_bytes items good.1)
  where
    by : (t : Bool) → is_realm (pair_of item.bytes) ≡ t → AllByRecursion AreBytes (pairs_in items) → AllByRecursion AreBytes (pairs_in (item ∷ items))
    by true realm later =
        subst (λ (t : Bool). AllByRecursion AreBytes (cond (not t) (pair_of item.bytes ∷ pairs_in items) (pairs_in items))) (sym realm) later
    by false other later =
        subst (λ (t : Bool). AllByRecursion AreBytes (cond (not t) (pair_of item.bytes ∷ pairs_in items) (pairs_in items))) (sym other)
        (record { name = small (pair_of item.bytes).name good.0.name.utf8; value = small (pair_of item.bytes).value (good.0.value other).utf8 }, later)

-- ---- they may stand in a value
text_byte : (b : ℕ) → is_name_byte b ≡ true → is_text_byte b ≡ true
text_byte b name = grind (arith, nat_tests)

names_text : (text : List ℕ) → list_all is_name_byte text ≡ true → list_all is_text_byte text ≡ true
names_text [] all = refl
names_text (b ∷ text) all =
    let both = and_split (is_name_byte b) (list_all is_name_byte text) all in
    and_join (is_text_byte b) _ (text_byte b both.0) (names_text text both.1)

escaped_text : (text : List ℕ) → AllByRecursion (λ b. b < 256) text → list_all is_text_byte (escape text) ≡ true
escaped_text text bytes = names_text (escape text) (name_bytes-escape text bytes)

item_bytes : (pair : Pair) → AreBytes pair → list_all is_text_byte (item_text pair) ≡ true
item_bytes pair bytes =
    all_join is_text_byte ((escape pair.name ++ codes "=\"") ++ escape pair.value) (codes "\"")
    (all_join is_text_byte (escape pair.name ++ codes "=\"") (escape pair.value)
    (all_join is_text_byte (escape pair.name) (codes "=\"") (escaped_text pair.name bytes.name) refl)
    (escaped_text pair.value bytes.value))
    refl

next_bytes : (pairs : List Pair) → AllByRecursion AreBytes pairs → list_all is_text_byte (flat_map next pairs) ≡ true
next_bytes [] all = refl
next_bytes (pair ∷ pairs) all =
    all_join is_text_byte (next pair) (flat_map next pairs) (all_join is_text_byte (codes ", ") (item_text pair) refl (item_bytes pair all.0)) (next_bytes pairs all.1)

header_bytes : (pairs : List Pair) → AllByRecursion AreBytes pairs → list_all is_text_byte (header_text pairs) ≡ true
header_bytes [] all = refl
header_bytes (pair ∷ pairs) all =
    all_join is_text_byte (codes "OAuth ") (item_text pair ++ flat_map next pairs) refl
    (all_join is_text_byte (item_text pair) (flat_map next pairs) (item_bytes pair all.0) (next_bytes pairs all.1))

-- ---- neither a space nor a tab stands at an end
end_stays : (text : List ℕ) → trim_end (text ++ 34 ∷ []) ≡ text ++ 34 ∷ []
end_stays text =
    rw (reverse-append text (34 ∷ [])) (ap reverse (sym (reverse-append text (34 ∷ []))) ∙ reverse-reverse (text ++ 34 ∷ []))

-- `OAuth` stands in front
trimmed : (pairs : List Pair) → trim_end (header_text pairs) ≡ header_text pairs → is_trimmed (header_text pairs) ≡ true
trimmed [] end = refl
trimmed (pair ∷ pairs) end =
    let text = header_text (pair ∷ pairs) in
    and_join _ _ ((bytes_eq-Decides text text).1 refl) ((bytes_eq-Decides (trim_end text) text).1 end)

ends : (pairs : List Pair) (pair : Pair)
    → header_text (pairs ++ pair ∷ []) ≡ ((header_text pairs ++ separator pairs) ++ ((escape pair.name ++ codes "=\"") ++ escape pair.value)) ++ 34 ∷ []
ends pairs pair =
    header_text-push pairs pair ∙ sym (append_assoc (header_text pairs ++ separator pairs) ((escape pair.name ++ codes "=\"") ++ escape pair.value) (34 ∷ []))

-- the header of pairs that are bytes is a value
pub is_value-header : (pairs : List Pair) (pair : Pair) → AllByRecursion AreBytes (pairs ++ pair ∷ []) → is_value (header_text (pairs ++ pair ∷ [])) ≡ true
is_value-header pairs pair bytes =
    let text = header_text (pairs ++ pair ∷ []) in
    let end : trim_end text ≡ text = ap trim_end (ends pairs pair) ∙ end_stays _ ∙ sym (ends pairs pair) in
    and_join _ _ (header_bytes (pairs ++ pair ∷ []) bytes) (trimmed (pairs ++ pair ∷ []) end)
