-- The parts of a URL that was read.
use Rattle.oauth_text.specs.declared.url.Url.{Url}
use Rattle.oauth_text.specs.Url.{UrlParts}

abbrev pub parts_of : Url → UrlParts
parts_of url = record { scheme = url.scheme; name = url.host.name; port = url.host.port; path = url.path; query = url.query }
