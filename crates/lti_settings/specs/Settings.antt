-- The settings file: a JSON object (RFC 8259, by the kit's definition of the value of a text) with the scheme and the keys
-- (this project's own).
use Rattle.std.specs.Prelude.{◌≡◌, ℕ, Bool, ◌&&◌, nat_le, List, [], ◌∷◌, length, codes, bytes_eq, IsUtf8, true, if◌then◌else◌, Option, None, Some, is_none, option_map, option_and_then}
use Rattle.serde_json.specs.Data.{Data, Items, no_items, item}
use Rattle.serde_json.specs.Read.{read}
use Rattle.serde_json.specs.Find.{get, as_str, as_array}
use Rattle.lti_outside.specs.declared.pairs.Pair.{Pair}
use Rattle.oauth_text.specs.declared.url.Scheme.{Scheme}
use Rattle.oauth_text.specs.declared.url.Scheme.TheVariants.{Http, Https}
use Rattle.oauth_request.specs.Secret.{first_key_fault}

-- the scheme by which this end is reached, and the keys with their secrets
pub record SettingsParts : Type 0 where
  pub scheme : Scheme
  pub keys : List Pair

-- `http` or `https`
abbrev pub scheme_of : List ℕ → Option Scheme
scheme_of text =
    if bytes_eq text (codes "http") then Some Http else if bytes_eq text (codes "https") then Some Https else None

-- the text of a member
abbrev pub text_at : List ℕ → Data → Option (List ℕ)
text_at name value = option_and_then as_str (get name value)

-- a key with its secret
abbrev pub pair_in : Data → Option Pair
pair_in value =
    option_and_then (λ key. option_map (λ secret. record { name = key; value = secret }) (text_at (codes "secret") value)) (text_at (codes "key") value)

-- the pairs of a list, where each element is one
unfoldable pub pairs_in : Items → Option (List Pair)
pairs_in no_items = Some []
pairs_in (item value items) = option_and_then (λ pair. option_map (λ pairs. pair ∷ pairs) (pairs_in items)) (pair_in value)

-- 1 to 1,000 keys, none of which is empty, over 255 bytes or repeated
abbrev pub are_keys : List Pair → Bool
are_keys pairs = nat_le 1 (length pairs) && nat_le (length pairs) 1000 && is_none (first_key_fault [] pairs)

-- the keys of the settings
abbrev pub keys_in : Data → Option (List Pair)
keys_in value = option_and_then pairs_in (option_and_then as_array (get (codes "keys") value))

-- the settings that a value is
pub record AreSettings (value : Data) (parts : SettingsParts) : Type 0 where
  pub scheme : option_and_then scheme_of (text_at (codes "scheme") value) ≡ Some parts.scheme
  pub keys : keys_in value ≡ Some parts.keys
  pub sound : are_keys parts.keys ≡ true

-- the bytes are UTF-8, JSON, and these settings
pub record IsSettings (bytes : List ℕ) (parts : SettingsParts) : Type 0 where
  pub utf8 : IsUtf8 bytes
  pub value : Data
  pub reads : read bytes ≡ Some value
  pub are : AreSettings value parts
