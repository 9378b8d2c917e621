-- The pairs of an Authorization header (RFC 5849, section 3.5.1).
use Rattle.std.specs.Prelude.{◌≡◌, ℕ, Bool, not, ◌&&◌, ◌||◌, ◌==◌, List, [], ◌∷◌, ◌++◌, length, take, drop, filter, map, slice_index, codes, if◌then◌else◌}
use Rattle.std.specs.List.{AllByRecursion}
use Rattle.std.specs.Char.{to_ascii_lowercase}
use Rattle.std.specs.Str.{bytes_eq}
use Rattle.lti_outside.specs.declared.pairs.Pair.{Pair}
use Rattle.oauth_header.specs.Item.{IsItem, pair_of, is_realm}
use Rattle.oauth_text.specs.Blanks.{is_blank}
use Rattle.oauth_header.specs.Items.{Placed, items_from}

-- the scheme is OAuth: these five letters in any case, and then nothing, a space or a tab
abbrev pub is_oauth : List ℕ → Bool
is_oauth value =
    bytes_eq (map to_ascii_lowercase (take 5 value)) (codes "oauth") && (length value == 5 || is_blank (slice_index value 5))

-- the items of the header's value, with their places. Another scheme has none
abbrev pub items_of : List ℕ → List Placed
items_of value = if is_oauth value then items_from 5 (drop 5 value) else []

-- each item has a reading
abbrev pub AreItems : List Placed → Type 0
AreItems items = AllByRecursion (λ item. IsItem item.bytes) items

-- the pairs of the items in order, without `realm`
abbrev pub pairs_in : List Placed → List Pair
pairs_in items = filter (λ pair. not (is_realm pair)) (map (λ item. pair_of item.bytes) items)

-- the header's value has a reading: each of its items has one
abbrev pub IsHeader : List ℕ → Type 0
IsHeader value = AreItems (items_of value)

-- the pairs of the header's value
abbrev pub header_pairs : List ℕ → List Pair
header_pairs value = pairs_in (items_of value)

-- the first of the items that has no reading begins at this place
pub record IsFirstBad (items : List Placed) (at : ℕ) : Type 0 where
  pub before : List Placed
  pub item : Placed
  pub after : List Placed
  pub are : items ≡ before ++ item ∷ after
  pub good : AreItems before
  pub bad : ¬ IsItem item.bytes
  pub place : at ≡ item.at
