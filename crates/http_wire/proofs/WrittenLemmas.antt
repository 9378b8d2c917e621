-- The pieces of a written request are its text.
use Rattle.std.proofs.Common.{◌≡◌, ℕ, List, [], ◌++◌, length, codes, append_assoc, append-nil, ap, ◌∙◌, Option, None, Some}
use Rattle.std.specs.Prelude.{MatchOption, decimal}
use Rattle.http_wire.specs.Message.{RequestParts}
use Rattle.http_wire.specs.Written.{where_some, version_text, port_text, request_text}

regroup : (m sp p q1 q sp2 vt nl h n c d mn me mz an au az ln le bd : List ℕ)
    → m ++ (sp ++ (p ++ (q1 ++ (q ++ (((sp2 ++ vt) ++ nl) ++ (h ++ (n ++ (c ++ (d ++ (nl ++ (mn ++ (me ++ (mz ++ (an ++ (au ++ (az ++ (ln ++ (le ++ ((nl ++ nl) ++ (bd ++ []))))))))))))))))))))
    ≡ (((((((((((((m ++ sp) ++ p) ++ (q1 ++ q)) ++ sp2) ++ vt) ++ nl) ++ h) ++ (n ++ (c ++ d))) ++ nl) ++ ((mn ++ me) ++ mz)) ++ ((an ++ au) ++ az)) ++ ((ln ++ le) ++ nl)) ++ nl) ++ bd
regroup m sp p q1 q sp2 vt nl h n c d mn me mz an au az ln le bd = simp (append_assoc, append-nil)

-- the colon and the digits of a port are its text
pub port_pieces : (port : Option ℕ) (colon digits : List ℕ) → MatchOption port (colon ≡ []) (λ _. colon ≡ codes ":") → MatchOption port (digits ≡ []) (λ number. digits ≡ decimal number)
    → colon ++ digits ≡ port_text port
port_pieces None colon digits none empty = λ i. none i ++ empty i
port_pieces (Some number) colon digits some is = λ i. some i ++ is i

-- the pieces of a request, one after another
abbrev pub pieces_of : RequestParts → List ℕ → List ℕ → List ℕ
pieces_of parts colon digits =
    parts.method ++ (codes " " ++ (parts.path ++ (where_some parts.query (codes "?") ++ (parts.query
    ++ ((codes " " ++ version_text parts.close ++ codes "\r\n") ++ (codes "Host: " ++ (parts.host_name ++ (colon ++ (digits ++ (codes "\r\n"
    ++ (where_some parts.media (codes "Content-Type: ") ++ (parts.media ++ (where_some parts.media (codes "\r\n")
    ++ (where_some parts.authorization (codes "Authorization: ") ++ (parts.authorization ++ (where_some parts.authorization (codes "\r\n")
    ++ (codes "Content-Length: " ++ (decimal (length parts.body) ++ (codes "\r\n\r\n" ++ (parts.body ++ []))))))))))))))))))))

-- the text with another text in place of the port's
abbrev text_with : RequestParts → List ℕ → List ℕ
text_with parts port =
    ((((((((((((parts.method ++ codes " ") ++ parts.path) ++ (where_some parts.query (codes "?") ++ parts.query)) ++ codes " ") ++ version_text parts.close) ++ codes "\r\n")
    ++ codes "Host: ") ++ (parts.host_name ++ port)) ++ codes "\r\n")
    ++ ((where_some parts.media (codes "Content-Type: ") ++ parts.media) ++ where_some parts.media (codes "\r\n")))
    ++ ((where_some parts.authorization (codes "Authorization: ") ++ parts.authorization) ++ where_some parts.authorization (codes "\r\n")))
    ++ ((codes "Content-Length: " ++ decimal (length parts.body)) ++ codes "\r\n")) ++ codes "\r\n" ++ parts.body

pub pieces_are_text : (parts : RequestParts) (colon digits : List ℕ) → colon ++ digits ≡ port_text parts.host_port → pieces_of parts colon digits ≡ request_text parts
pieces_are_text parts colon digits port =
    regroup parts.method (codes " ") parts.path (where_some parts.query (codes "?")) parts.query (codes " ") (version_text parts.close) (codes "\r\n") (codes "Host: ")
    parts.host_name colon digits (where_some parts.media (codes "Content-Type: ")) parts.media (where_some parts.media (codes "\r\n"))
    (where_some parts.authorization (codes "Authorization: ")) parts.authorization (where_some parts.authorization (codes "\r\n")) (codes "Content-Length: ") (decimal (length parts.body)) parts.body
    ∙ ap (text_with parts) port
