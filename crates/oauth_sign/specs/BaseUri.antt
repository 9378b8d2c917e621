-- Base string URIs (RFC 5849, section 3.4.1.2).
use Rattle.std.specs.Prelude.{ℕ, ◌==◌, List, [], ◌∷◌, ◌++◌, codes, if◌then◌else◌, Option, None, Some}
use Rattle.std.specs.Fmt.{decimal}
use Rattle.oauth_text.specs.declared.url.Scheme.{Scheme}
use Rattle.oauth_text.specs.declared.url.Scheme.TheVariants.{Http, Https}

-- the scheme in lower case
abbrev pub scheme_text : Scheme → List ℕ
scheme_text Http = codes "http"
scheme_text Https = codes "https"

-- the port of a URL that names none
abbrev pub default_port : Scheme → ℕ
default_port Http = 80
default_port Https = 443

-- `:` and the port, but nothing where there is none or it is the scheme's default
abbrev pub port_suffix : Scheme → Option ℕ → List ℕ
port_suffix scheme None = []
port_suffix scheme (Some port) = if port == default_port scheme then [] else 58 ∷ decimal port

-- the scheme, `://`, the host's name, its port where it isn't the default, and the path as sent
abbrev pub base_uri_of : Scheme → List ℕ → Option ℕ → List ℕ → List ℕ
base_uri_of scheme name port path = scheme_text scheme ++ codes "://" ++ name ++ port_suffix scheme port ++ path
