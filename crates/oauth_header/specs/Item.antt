-- One item of an Authorization header of the scheme OAuth (RFC 5849, section 3.5.1): an encoded name, `=`, and an
-- encoded value between quotation marks.
use Rattle.std.specs.Prelude.{◌≡◌, ℕ, ◌+◌, ◌-◌, Bool, true, false, not, ◌&&◌, ◌||◌, ◌==◌, nat_le, List, [], ◌∷◌, length, take, drop, slice_index, codes, IsUtf8}
use Rattle.std.specs.List.{list_all, position_or_len}
use Rattle.std.specs.Char.{is_ascii_hexdigit}
use Rattle.std.specs.Str.{bytes_eq}
use Rattle.percent_encoding.specs.Percent.{percent_decode}
use Rattle.lti_outside.specs.declared.pairs.Pair.{Pair}
use Rattle.oauth_text.specs.Escape.{is_unreserved}

-- a letter, a digit, `-`, `.`, `_`, `~` or `%`
abbrev pub is_name_byte : ℕ → Bool
is_name_byte b = is_unreserved b || b == 37

-- any byte from 0x20 to 0x7E but `"` and `\`
abbrev pub is_value_byte : ℕ → Bool
is_value_byte b = nat_le 32 b && nat_le b 126 && not (b == 34) && not (b == 92)

-- the text begins with two hexadecimal digits
abbrev pub begins_with_digits : List ℕ → Bool
begins_with_digits [] = false
begins_with_digits (high ∷ []) = false
begins_with_digits (high ∷ low ∷ rest) = is_ascii_hexdigit high && is_ascii_hexdigit low

-- two hexadecimal digits stand behind each `%`
abbrev pub are_escapes : List ℕ → Bool
are_escapes [] = true
are_escapes (b ∷ rest) = (not (b == 37) || begins_with_digits rest) && are_escapes rest

-- what is encoded: two hexadecimal digits stand behind each `%`, and the decoded bytes are UTF-8
pub record IsEncoded (text : List ℕ) : Type 0 where
  pub escapes : are_escapes text ≡ true
  pub utf8 : IsUtf8 (percent_decode text)

-- at least one byte, and only bytes of a name
abbrev pub are_name_bytes : List ℕ → Bool
are_name_bytes text = not (length text == 0) && list_all is_name_byte text

-- how many bytes stand before the first `=`
abbrev pub name_len : List ℕ → ℕ
name_len item = position_or_len (λ b. b == 61) item

-- the encoded name: what stands before the first `=`
abbrev pub raw_name : List ℕ → List ℕ
raw_name item = take (name_len item) item

-- what stands behind the first `=`
abbrev pub assigned : List ℕ → List ℕ
assigned item = drop (name_len item + 1) item

-- the text ends in a quotation mark
abbrev pub is_closed : List ℕ → Bool
is_closed text = nat_le 1 (length text) && slice_index text (length text - 1) == 34

-- the text stands between quotation marks
abbrev pub is_quoted : List ℕ → Bool
is_quoted [] = false
is_quoted (first ∷ rest) = first == 34 && is_closed rest

-- what stands between them
abbrev pub unquoted : List ℕ → List ℕ
unquoted [] = []
unquoted (first ∷ rest) = take (length rest - 1) rest

-- the encoded value: what stands between the quotation marks
abbrev pub raw_value : List ℕ → List ℕ
raw_value item = unquoted (assigned item)

-- the pair that the item stands for
abbrev pub pair_of : List ℕ → Pair
pair_of item = record { name = percent_decode (raw_name item); value = percent_decode (raw_value item) }

abbrev pub is_realm : Pair → Bool
is_realm pair = bytes_eq pair.name (codes "realm")

-- the item is a name, `=`, and a value between quotation marks, of bytes that may stand there
pub record IsWritten (item : List ℕ) : Type 0 where
  pub quoted : is_quoted (assigned item) ≡ true
  pub name : are_name_bytes (raw_name item) ≡ true
  pub value : list_all is_value_byte (raw_value item) ≡ true

-- the item has a reading. The value of `realm` isn't decoded, so a `%` in it may stand for itself
pub record IsItem (item : List ℕ) : Type 0 where
  pub written : IsWritten item
  pub name : IsEncoded (raw_name item)
  pub value : is_realm (pair_of item) ≡ false → IsEncoded (raw_value item)
