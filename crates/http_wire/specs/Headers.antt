-- The headers of a message, as names with values (RFC 9110, section 5). A value stands without the spaces and tabs at
-- its ends.
use Rattle.std.specs.Prelude.{◌==◌, ◌&&◌, ◌||◌, not, nat_le, nat_lt, ℕ, Bool, true, false, List, [], ◌∷◌, length, filter, map, reverse, codes, Option, None, Some, unwrap_or}
use Rattle.std.specs.List.{list_all, list_any, before_first, slice_split}
use Rattle.std.specs.Char.{to_ascii_lowercase, is_ascii_digit}
use Rattle.std.specs.Str.{bytes_eq}
use Rattle.std.specs.Str.Parse.{digits_value}
use Rattle.httparse.specs.Grammar.{skip_ows, trim_ows}
use Rattle.oauth_text.specs.Host.{is_host}

-- the texts are the same in any case
unfoldable pub is_same_text : List ℕ → List ℕ → Bool
is_same_text one other = bytes_eq (map to_ascii_lowercase one) (map to_ascii_lowercase other)

-- the header has this name, in any case
abbrev pub is_named : List ℕ → (List ℕ × List ℕ) → Bool
is_named name header = is_same_text header.0 name

-- the values of the headers of this name
abbrev pub values_of : List ℕ → List (List ℕ × List ℕ) → List (List ℕ)
values_of name headers = map (λ header. header.1) (filter (is_named name) headers)

-- how often a name stands
abbrev pub count_of : List ℕ → List (List ℕ × List ℕ) → ℕ
count_of name headers = length (filter (is_named name) headers)

-- the first value, or nothing
abbrev pub first_in : List (List ℕ) → List ℕ
first_in [] = []
first_in (value ∷ values) = value

abbrev pub is_none : List (List ℕ) → Bool
is_none [] = true
is_none (value ∷ values) = false

-- a tab, or a byte from 0x20 to 0x7E
abbrev pub is_text_byte : ℕ → Bool
is_text_byte b = b == 9 || (nat_le 32 b && nat_le b 126)

-- a header that says what the body is
abbrev pub is_body_header : (List ℕ × List ℕ) → Bool
is_body_header header =
    is_named (codes "Content-Length") header || (is_named (codes "Content-Type") header
    || (is_named (codes "Content-Encoding") header || is_named (codes "Transfer-Encoding") header))

-- a header that is read
abbrev pub is_read_header : (List ℕ × List ℕ) → Bool
is_read_header header =
    is_body_header header
    || (is_named (codes "Host") header || (is_named (codes "Authorization") header || is_named (codes "Connection") header))

-- a header that is read has a byte that no value has
abbrev pub is_bad_header : (List ℕ × List ℕ) → Bool
is_bad_header header = is_read_header header && not (list_all is_text_byte header.1)

-- a header that says one thing stands twice, or a header that is read has a byte that no value has
abbrev pub has_bad_header : List (List ℕ × List ℕ) → Bool
has_bad_header headers =
    nat_lt 1 (count_of (codes "Authorization") headers)
    || (nat_lt 1 (count_of (codes "Content-Type") headers) || list_any is_bad_header headers)

-- without the spaces and tabs at the end
abbrev pub trim_end : List ℕ → List ℕ
trim_end text = reverse (skip_ows (reverse text))

-- the media type: what stands before `;`, in lower case (RFC 9110, section 8.3)
abbrev pub media_in : List ℕ → List ℕ
media_in value = map to_ascii_lowercase (trim_end (before_first (λ b. b == 59) value))

-- a coding of the body stands that changes it (RFC 9110, section 8.4)
abbrev pub is_encoding : (List ℕ × List ℕ) → Bool
is_encoding header = is_named (codes "Content-Encoding") header && not (is_same_text header.1 (codes "identity"))

abbrev pub is_close : List ℕ → Bool
is_close item = is_same_text (trim_ows item) (codes "close")

-- `close` is one of the items between commas (RFC 9110, section 7.6.1)
abbrev pub has_close : List ℕ → Bool
has_close value = list_any is_close (slice_split (λ b. b == 44) value)

abbrev pub is_closing : (List ℕ × List ℕ) → Bool
is_closing header = is_named (codes "Connection") header && has_close header.1

-- one value, and it is a host (RFC 9110, section 7.2)
abbrev pub is_one_host : List (List ℕ) → Bool
is_one_host [] = false
is_one_host (value ∷ []) = is_host value
is_one_host (value ∷ other ∷ values) = false

-- 1 to 19 digits
abbrev pub is_length : List ℕ → Bool
is_length value = nat_le 1 (length value) && nat_le (length value) 19 && list_all is_ascii_digit value

-- not one value that is a length, where any stands (RFC 9110, section 8.6)
abbrev pub is_bad_length : List (List ℕ) → Bool
is_bad_length [] = false
is_bad_length (value ∷ []) = not (is_length value)
is_bad_length (value ∷ other ∷ values) = true

-- the length that is said, where one is
abbrev pub length_said : List (List ℕ) → Option ℕ
length_said [] = None
length_said (value ∷ values) = Some (digits_value 10 value)

-- the length that is said, or 0
abbrev pub length_in : List (List ℕ) → ℕ
length_in values = unwrap_or (length_said values) 0

-- a method whose requests have a body
abbrev pub has_body : List ℕ → Bool
has_body method = bytes_eq method (codes "POST") || (bytes_eq method (codes "PUT") || bytes_eq method (codes "PATCH"))
