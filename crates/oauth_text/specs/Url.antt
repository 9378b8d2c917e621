-- URLs (RFC 3986, section 3, with the schemes `http` and `https` alone, without user information and fragment): a
-- scheme, a host, a path and a query.
use Rattle.std.specs.Prelude.{◌≡◌, ◌+◌, ℕ, Bool, true, ◌&&◌, ◌||◌, ◌==◌, nat_le, List, [], ◌∷◌, length, take, drop, map, codes, if◌then◌else◌, Option}
use Rattle.std.specs.List.{list_all, list_any, position_or_len}
use Rattle.std.specs.Char.{is_ascii_alphanumeric, to_ascii_lowercase}
use Rattle.std.specs.Str.{bytes_eq}
use Rattle.oauth_text.specs.Form.{IsForm}
use Rattle.oauth_text.specs.Host.{is_host, host_parts}
use Rattle.oauth_text.specs.declared.url.Scheme.{Scheme}
use Rattle.oauth_text.specs.declared.url.Scheme.TheVariants.{Http, Https}

pub record UrlParts : Type 0 where
  pub scheme : Scheme
  pub name : List ℕ
  pub port : Option ℕ
  pub path : List ℕ
  pub query : List ℕ

-- the text begins with this one, in any case
abbrev pub begins : List ℕ → List ℕ → Bool
begins front text = bytes_eq (map to_ascii_lowercase (take (length front) text)) (map to_ascii_lowercase front)

abbrev pub is_https : List ℕ → Bool
is_https text = begins (codes "https://") text

abbrev pub is_http : List ℕ → Bool
is_http text = begins (codes "http://") text

abbrev pub after_scheme : List ℕ → List ℕ
after_scheme text = if is_https text then drop 8 text else drop 7 text

abbrev pub scheme_of : List ℕ → Scheme
scheme_of text = if is_https text then Https else Http

-- the host ends before the first `/` or `?`
abbrev pub host_len : List ℕ → ℕ
host_len rest = position_or_len (λ b. b == 47 || b == 63) rest

abbrev pub host_text : List ℕ → List ℕ
host_text text = take (host_len (after_scheme text)) (after_scheme text)

-- the path and the query
abbrev pub target_text : List ℕ → List ℕ
target_text text = drop (host_len (after_scheme text)) (after_scheme text)

-- a byte of a path or a query
abbrev pub is_target_byte : ℕ → Bool
is_target_byte b = is_ascii_alphanumeric b || list_any (λ c. c == b) (codes "%-._~:/?@!$&'()*+,;=[]")

abbrev pub path_len : List ℕ → ℕ
path_len target = position_or_len (λ b. b == 63) target

abbrev pub path_of : List ℕ → List ℕ
path_of target = if nat_le 1 (path_len target) then take (path_len target) target else 47 ∷ []

abbrev pub query_of : List ℕ → List ℕ
query_of target = drop (path_len target + 1) target

-- whether the text is a URL, but for its query's decoded names and values
abbrev pub is_url_text : List ℕ → Bool
is_url_text text = (is_https text || is_http text) && is_host (host_text text) && list_all is_target_byte (target_text text)

abbrev pub url_parts : List ℕ → UrlParts
url_parts text = record {
  scheme = scheme_of text;
  name = (host_parts (host_text text)).0;
  port = (host_parts (host_text text)).1;
  path = path_of (target_text text);
  query = query_of (target_text text);
}

-- the text is the URL of these parts
abbrev pub IsUrl : List ℕ → UrlParts → Type 0
IsUrl text parts = (is_url_text text ≡ true) × IsForm (query_of (target_text text)) × (url_parts text ≡ parts)
