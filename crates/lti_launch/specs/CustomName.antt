-- Names of custom parameters (LTI 1.1.1, section 3 and appendix B).
use Rattle.std.specs.Prelude.{ℕ, ◌+◌, ◌||◌, ◌&&◌, nat_le, List, ◌++◌, map, codes, if◌then◌else◌}
use Rattle.std.specs.Str.{chars}

-- the character in a custom name: an ASCII letter in lower case, a digit, or `_` for any other character
abbrev pub custom_character : ℕ → ℕ
custom_character c =
    if nat_le 0x41 c && nat_le c 0x5A then c + 0x20
    else if (nat_le 0x61 c && nat_le c 0x7A) || (nat_le 0x30 c && nat_le c 0x39) then c
    else 0x5F

-- the name of the custom parameter that a text names
abbrev pub custom_name_of : List ℕ → List ℕ
custom_name_of text = codes "custom_" ++ map custom_character (chars text)
