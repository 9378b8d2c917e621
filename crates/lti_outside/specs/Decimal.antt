-- Numbers in decimal digits.
use Rattle.std.specs.Prelude.{ℕ, Bool, ◌&&◌, List, length, nat_le, if◌then◌else◌, Option, None, Some}
use Rattle.std.specs.List.{list_all}
use Rattle.std.specs.Char.{is_ascii_digit}
use Rattle.std.specs.Str.Parse.{digits_value}

-- at least one digit, and at most so many
abbrev pub is_decimal : ℕ → List ℕ → Bool
is_decimal most text = nat_le 1 (length text) && nat_le (length text) most && list_all is_ascii_digit text

-- the number that the digits spell
abbrev pub decimal_of : ℕ → List ℕ → Option ℕ
decimal_of most text = if is_decimal most text then Some (digits_value 10 text) else None
