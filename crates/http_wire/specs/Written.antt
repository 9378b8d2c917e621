-- The text of a request (RFC 9112, section 3), and which requests it spells.
use Rattle.std.specs.Prelude.{◌≡◌, ◌<◌, ◌^◌, ◌==◌, ◌&&◌, not, ℕ, Bool, true, false, if◌then◌else◌, List, [], ◌∷◌, ◌++◌, length, codes, decimal, Option, None, Some}
use Rattle.std.specs.List.{list_all, list_any}
use Rattle.std.specs.Char.{is_ascii_uppercase}
use Rattle.std.specs.Str.{bytes_eq}
use Rattle.httparse.specs.Grammar.{is_token, skip_ows}
use Rattle.oauth_text.specs.Host.{IsHostOf}
use Rattle.http_wire.specs.Message.{RequestParts}
use Rattle.http_wire.specs.Headers.{is_text_byte, trim_end}
use Rattle.http_wire.specs.Head.{is_target_byte, is_target}
use Rattle.http_wire.specs.Response.{length_line}

-- the text, where the value isn't empty
abbrev pub where_some : List ℕ → List ℕ → List ℕ
where_some [] text = []
where_some (b ∷ value) text = text

-- `?` and the query, where it isn't empty
abbrev pub query_text : List ℕ → List ℕ
query_text query = where_some query (codes "?") ++ query

-- HTTP/1.0 where the connection ends behind the answer, and HTTP/1.1 otherwise
abbrev pub version_text : Bool → List ℕ
version_text close = if close then codes "HTTP/1.0" else codes "HTTP/1.1"

abbrev pub request_line : RequestParts → List ℕ
request_line parts =
    parts.method ++ codes " " ++ parts.path ++ query_text parts.query ++ codes " " ++ version_text parts.close ++ codes "\r\n"

-- `:` and the port, where one is given
abbrev pub port_text : Option ℕ → List ℕ
port_text None = []
port_text (Some port) = codes ":" ++ decimal port

abbrev pub host_text : List ℕ → Option ℕ → List ℕ
host_text name port = name ++ port_text port

-- a line with this name, where the value isn't empty
abbrev pub value_line : List ℕ → List ℕ → List ℕ
value_line name value = where_some value (name ++ codes ": ") ++ value ++ where_some value (codes "\r\n")

-- the lines of the request, with the empty line behind them
abbrev pub request_head : RequestParts → List ℕ
request_head parts =
    request_line parts ++ codes "Host: " ++ host_text parts.host_name parts.host_port ++ codes "\r\n"
    ++ value_line (codes "Content-Type") parts.media ++ value_line (codes "Authorization") parts.authorization
    ++ length_line (length parts.body) ++ codes "\r\n"

-- the request
abbrev pub request_text : RequestParts → List ℕ
request_text parts = request_head parts ++ parts.body

-- a target without `?`
abbrev pub is_path : List ℕ → Bool
is_path path = is_target path && not (list_any (λ b. b == 63) path)

-- no space or tab stands at an end
abbrev pub is_trimmed : List ℕ → Bool
is_trimmed text = bytes_eq (skip_ows text) text && bytes_eq (trim_end text) text

-- a value as it is read
abbrev pub is_value : List ℕ → Bool
is_value value = list_all is_text_byte value && is_trimmed value

-- a byte of a value that is neither `;` nor a letter in upper case
abbrev pub is_media_byte : ℕ → Bool
is_media_byte b = is_text_byte b && not (b == 59) && not (is_ascii_uppercase b)

-- a media type as it is read
abbrev pub is_media : List ℕ → Bool
is_media media = list_all is_media_byte media && is_trimmed media

-- The written request is read as this one, where no limit is in the way.
pub record IsSoundRequest (parts : RequestParts) : Type 0 where
  pub method : is_token parts.method ≡ true
  pub path : is_path parts.path ≡ true
  pub query : list_all is_target_byte parts.query ≡ true
  pub host : ∥ ((text : List ℕ) × IsHostOf text parts.host_name parts.host_port) ∥₁
  pub media : is_media parts.media ≡ true
  pub encoded : parts.encoded ≡ false
  pub authorization : is_value parts.authorization ≡ true
  pub body : length parts.body < 10 ^ 19
