-- The pairs of a form text (URL Standard, section 5.1). `raw_pairs` cuts the text at each `&`, drops empty pieces, and
-- cuts each piece at its first `=` into a name and a value, of which the value is empty where there is no `=`. `decode`
-- reads `+` as a space and `%HH`, with hexadecimal digits in either case, as a byte; any other byte is itself.
use Rattle.std.specs.Prelude.{ℕ, ◌<◌, List, [], ◌∷◌, map, IsUtf8, All, ⊤}
use Rattle.form_urlencoded.specs.Form.{decode, raw_pairs}
use Rattle.lti_outside.specs.declared.pairs.Pair.{Pair}

-- an encoded name with its encoded value
abbrev pub Raw : Type 0
Raw = List ℕ × List ℕ

-- the pair that they stand for: `+` is a space and `%HH` a byte
abbrev pub decoded : Raw → Pair
decoded raw = record { name = decode raw.0; value = decode raw.1 }

-- each decoded name and value is UTF-8
abbrev pub AreTexts : List Raw → Type 0
AreTexts [] = ⊤
AreTexts (raw ∷ raws) = (IsUtf8 (decode raw.0) × IsUtf8 (decode raw.1)) × AreTexts raws

-- the text is a form: each decoded name and value is UTF-8
abbrev pub IsForm : List ℕ → Type 0
IsForm form = AreTexts (raw_pairs form)

-- the pairs of the form, in order, decoded
abbrev pub pairs_of : List ℕ → List Pair
pairs_of form = map decoded (raw_pairs form)

-- a name and a value that are bytes and UTF-8
pub record AreText (pair : Pair) : Type 0 where
  pub name : IsUtf8 pair.name
  pub name_bytes : All (λ b. b < 256) pair.name
  pub value : IsUtf8 pair.value
  pub value_bytes : All (λ b. b < 256) pair.value
