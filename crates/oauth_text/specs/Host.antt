-- Hosts with their ports (RFC 3986, section 3.2.2 and 3.2.3, with the bytes of a name bounded): a name, or an address
-- between brackets, and a port where one is written.
use Rattle.std.specs.Prelude.{ℕ, ◌+◌, ◌-◌, ◌≡◌, Bool, true, false, min, ◌&&◌, ◌||◌, ◌==◌, nat_le, List, [], ◌∷◌, length, take, drop, map, slice_index, if◌then◌else◌, Option, None, Some}
use Rattle.std.specs.List.{list_all, position_or_len}
use Rattle.std.specs.Char.{is_ascii_alphanumeric, is_ascii_hexdigit, to_ascii_lowercase}
use Rattle.std.specs.Str.Parse.{digits_value}
use Rattle.lti_outside.specs.Decimal.{is_decimal}

-- a letter, a digit, `-`, `.` or `_`
abbrev pub is_name_byte : ℕ → Bool
is_name_byte b = is_ascii_alphanumeric b || b == 45 || b == 46 || b == 95

-- a hexadecimal digit, `:` or `.`
abbrev pub is_address_byte : ℕ → Bool
is_address_byte b = is_ascii_hexdigit b || b == 58 || b == 46

-- 1 to 255 bytes of a name
abbrev pub is_plain_name : List ℕ → Bool
is_plain_name name = nat_le 1 (length name) && nat_le (length name) 255 && list_all is_name_byte name

-- 1 to 45 bytes of an address, and `]`
abbrev pub is_closed : List ℕ → Bool
is_closed rest = nat_le 2 (length rest) && nat_le (length rest) 46 && slice_index rest (length rest - 1) == 93
    && list_all is_address_byte (take (length rest - 1) rest)

-- 1 to 45 bytes of an address between `[` and `]`
abbrev pub is_address : List ℕ → Bool
is_address [] = false
is_address (first ∷ rest) = first == 91 && is_closed rest

abbrev pub is_host_name : List ℕ → Bool
is_host_name name = is_plain_name name || is_address name

-- a name between brackets ends at the first `]`, and another before the first `:`
abbrev pub name_len : List ℕ → ℕ
name_len [] = 0
name_len (first ∷ rest) =
    if first == 91 then min (length rest + 1) (position_or_len (λ b. b == 93) rest + 2) else position_or_len (λ b. b == 58) (first ∷ rest)

-- a number from 1 to 65535 without a leading zero
abbrev pub is_port : List ℕ → Bool
is_port digits = is_decimal 5 digits && nat_le 1 (slice_index digits 0 - 48) && nat_le (digits_value 10 digits) 65535

-- nothing, or `:` and a port
abbrev pub is_suffix : List ℕ → Bool
is_suffix [] = true
is_suffix (colon ∷ digits) = colon == 58 && is_port digits

abbrev pub port_in : List ℕ → Option ℕ
port_in [] = None
port_in (colon ∷ digits) = Some (digits_value 10 digits)

-- whether the text is a host
abbrev pub is_host : List ℕ → Bool
is_host text = is_host_name (take (name_len text) text) && is_suffix (drop (name_len text) text)

-- its name in lower case, and its port
abbrev pub host_parts : List ℕ → List ℕ × Option ℕ
host_parts text = (map to_ascii_lowercase (take (name_len text) text), port_in (drop (name_len text) text))

-- the name and the port are those of some text
abbrev pub IsHostOf : List ℕ → List ℕ → Option ℕ → Type 0
IsHostOf text name port = (is_host text ≡ true) × (host_parts text ≡ (name, port))
