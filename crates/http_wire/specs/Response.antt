-- The text of an answer (RFC 9112, section 4, and RFC 9110, sections 8, 10.2.1 and 11.6.1).
use Rattle.std.specs.Prelude.{ℕ, Bool, ◌==◌, if◌then◌else◌, List, [], ◌++◌, length, codes, decimal, Option, None, Some, IsSome, unwrap_or}
use Rattle.http_wire.specs.declared.message.Media.{Media}
use Rattle.http_wire.specs.declared.message.Media.TheVariants.{Plain, Xml}
use Rattle.http_wire.specs.Message.{ResponseParts}

-- the reason phrase of a status that is answered (RFC 9110, section 15)
abbrev pub reason_of : ℕ → Option (List ℕ)
reason_of status =
    if status == 200 then Some (codes "OK") else (
    if status == 400 then Some (codes "Bad Request") else (
    if status == 401 then Some (codes "Unauthorized") else (
    if status == 404 then Some (codes "Not Found") else (
    if status == 405 then Some (codes "Method Not Allowed") else (
    if status == 411 then Some (codes "Length Required") else (
    if status == 413 then Some (codes "Content Too Large") else (
    if status == 415 then Some (codes "Unsupported Media Type") else (
    if status == 431 then Some (codes "Request Header Fields Too Large") else (
    if status == 501 then Some (codes "Not Implemented") else (
    if status == 503 then Some (codes "Service Unavailable") else None))))))))))

-- the status is one that is answered
abbrev pub HasReason : ℕ → Type 0
HasReason status = IsSome (reason_of status)

abbrev pub status_line : ℕ → List ℕ
status_line status = codes "HTTP/1.1 " ++ decimal status ++ codes " " ++ unwrap_or (reason_of status) [] ++ codes "\r\n"

abbrev pub media_line : Media → List ℕ
media_line Plain = codes "Content-Type: text/plain; charset=utf-8\r\n"
media_line Xml = codes "Content-Type: application/xml; charset=utf-8\r\n"

abbrev pub length_line : ℕ → List ℕ
length_line length = codes "Content-Length: " ++ decimal length ++ codes "\r\n"

-- the scheme to sign by, or the method to use instead
abbrev pub hint_line : ℕ → List ℕ
hint_line status =
    if status == 401 then codes "WWW-Authenticate: OAuth\r\n" else (if status == 405 then codes "Allow: POST\r\n" else [])

-- whether the connection ends behind the answer (RFC 9112, section 9.3)
abbrev pub connection_line : Bool → List ℕ
connection_line close = if close then codes "Connection: close\r\n" else codes "Connection: keep-alive\r\n"

-- the lines of the answer, with the empty line behind them; `close` says that the connection ends behind it
abbrev pub response_head : ResponseParts → Bool → List ℕ
response_head parts close =
    status_line parts.status ++ media_line parts.media ++ length_line (length parts.body) ++ hint_line parts.status
    ++ connection_line close ++ codes "\r\n"

-- the answer
abbrev pub response_text : ResponseParts → Bool → List ℕ
response_text parts close = response_head parts close ++ parts.body
