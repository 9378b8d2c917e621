-- A written request is read back.
use Rattle.std.proofs.Common.{◌≡◌, ℕ, ◌+◌, ◌<◌, ◌≤◌, ◌^◌, ◌==◌, ◌&&◌, ◌||◌, not, Bool, true, false, cond, All, List, [], ◌∷◌, ◌++◌, length, map, reverse, codes, refl, sym, ap, ◌∙◌, subst, arith, append_assoc, append-nil, length-append, Option, Some, None}
use Rattle.std.specs.Prelude.{decimal, nat_lt, nat_eq}
use Rattle.std.specs.Char.{to_ascii_lowercase}
use Rattle.std.specs.List.{list_all, list_any, flat_map, starts_with}
use Rattle.std.proofs.Math.Logic.{∥∥₁_elim}
use Rattle.std.proofs.Props.{props}
use Rattle.std.proofs.lemmas.Bool.Decides.{nat_tests}
use Rattle.std.proofs.lemmas.Grind.{flat_map-append}
use Rattle.std.proofs.lemmas.List.{map-append, reverse-reverse}
use Rattle.std.proofs.lemmas.List.Elements.{All-cons, All-nil, All-append}
use Rattle.std.proofs.lemmas.List.Sums.{AllPass-from_list_all}
use Rattle.std.proofs.lemmas.Slice.Eq.{bytes_eq-Decides}
use Rattle.std.proofs.lemmas.Str.{IsUtf8-from_ascii}
use Rattle.httparse.specs.Grammar as grammar
use Rattle.httparse.specs.Grammar.{LineEnd, Field, IsField, IsToken, is_token, is_token_byte, is_value_byte, is_uri_byte, AllPass, print_field, print_section, print_version, RequestHead, IsRequestHead, print_request, ReadsRequest, skip_ows, trim_ows}
use Rattle.httparse.specs.Spans.{name_and_value}
use Rattle.oauth_text.specs.Host.{host_parts, IsHostOf}
use Rattle.lti_outside.specs.declared.limits.Limits.{Limits}
use Rattle.lti_outside.proofs.BoolLemmas.{and_split}
use Rattle.http_wire.specs.declared.fault.WireFault.{WireFault}
use Rattle.http_wire.specs.declared.fault.WireFault.TheVariants.{TooManyHeaders, BadHead, BadTarget, BadHost, Chunked, BadLength, LengthMissing, BodyTooLong}
use Rattle.http_wire.specs.Conditions.{first_fault}
use Rattle.http_wire.specs.Shape.{IsHead}
use Rattle.http_wire.specs.Taking.{HasNoLineFeed}
use Rattle.http_wire.specs.Lines.{line_ends, has_bare_line_feed, line_conditions}
use Rattle.http_wire.specs.Headers.{is_same_text, values_of, count_of, first_in, is_none, is_text_byte, is_read_header, is_bad_header, has_bad_header, trim_end, media_in, is_encoding, is_closing, is_one_host, is_length, is_bad_length, length_in, has_body}
use Rattle.http_wire.specs.Head.{HeadParts, head_parts_of, is_target, is_target_byte, part_conditions, request_of}
use Rattle.http_wire.specs.Message.{RequestParts}
use Rattle.http_wire.specs.Response.{length_line}
use Rattle.http_wire.specs.Written.{query_text, version_text, request_line, host_text, value_line, request_head, is_trimmed, is_media_byte, IsSoundRequest}
use Rattle.http_wire.specs.Back.{Holds, WrittenIsRead}
use Rattle.http_wire.proofs.HeaderLemmas.{target_is_ascii}
use Rattle.http_wire.proofs.BackHost.{host_back}
use Rattle.http_wire.proofs.BackLines.{crlf, IsLines, no_lines, add_line, add_value, lines_are_head}
use Rattle.http_wire.proofs.BackBytes.{is_visible, no_feed, token_no_feed, token_no_return, text_of_visible, value_of_text, uri_of_target, text_of_media, visible_front, visible_end, host_visible, decimal_visible, length_back, cut_back, media_kept, target_back}

-- ---- the head that was written

abbrev pub header_field : List ℕ → List ℕ → Field
header_field name value = record { name = name; raw = 32 ∷ value; end = grammar.crlf }

abbrev pub optional_field : List ℕ → List ℕ → List Field
optional_field name [] = []
optional_field name (b ∷ value) = header_field name (b ∷ value) ∷ []

abbrev pub minor_of : Bool → ℕ
minor_of close = cond close 0 1

abbrev pub target_of : RequestParts → List ℕ
target_of parts = parts.path ++ query_text parts.query

abbrev pub fields_of : RequestParts → List Field
fields_of parts =
    header_field (codes "Host") (host_text parts.host_name parts.host_port)
    ∷ (optional_field (codes "Content-Type") parts.media ++ (optional_field (codes "Authorization") parts.authorization
    ++ header_field (codes "Content-Length") (decimal (length parts.body)) ∷ []))

abbrev pub head_of : RequestParts → RequestHead
head_of parts = record {
  blank = [];
  method = parts.method;
  target = target_of parts;
  minor = minor_of parts.close;
  line_end = grammar.crlf;
  fields = fields_of parts;
  last = grammar.crlf;
}

-- ---- its text

optional_text : (name value : List ℕ) → flat_map print_field (optional_field name value) ≡ value_line name value
optional_text name [] = refl
optional_text name (b ∷ value) =
    append-nil (print_field (header_field name (b ∷ value))) ∙ ap (λ xs. xs ++ crlf) (sym (append_assoc name (58 ∷ 32 ∷ []) (b ∷ value)))

regroup : (m sp p q v nl h ht ml al cl : List ℕ)
    → ((((m ++ (sp ++ (p ++ q))) ++ (sp ++ v)) ++ nl) ++ ((((h ++ ht) ++ nl) ++ (ml ++ (al ++ (cl ++ [])))) ++ nl))
    ≡ ((((((((((((m ++ sp) ++ p) ++ q) ++ sp) ++ v) ++ nl) ++ h) ++ ht) ++ nl) ++ ml) ++ al) ++ cl) ++ nl
regroup m sp p q v nl h ht ml al cl = simp (append_assoc, append-nil)

version_printed : (close : Bool) → print_version (minor_of close) ≡ version_text close
version_printed true = refl
version_printed false = refl

section_text : (parts : RequestParts) → flat_map print_field (fields_of parts)
    ≡ ((codes "Host: " ++ host_text parts.host_name parts.host_port) ++ crlf)
    ++ (value_line (codes "Content-Type") parts.media ++ (value_line (codes "Authorization") parts.authorization ++ (length_line (length parts.body) ++ [])))
section_text parts =
    let optional_media = optional_field (codes "Content-Type") parts.media in
    let optional_authorization = optional_field (codes "Authorization") parts.authorization in
    let length_field = header_field (codes "Content-Length") (decimal (length parts.body)) ∷ [] in
    ap (λ xs. ((codes "Host: " ++ host_text parts.host_name parts.host_port) ++ crlf) ++ xs)
    (flat_map-append print_field optional_media (optional_authorization ++ length_field)
    ∙ (λ i. optional_text (codes "Content-Type") parts.media i ++ flat_map-append print_field optional_authorization length_field i)
    ∙ ap (λ xs. value_line (codes "Content-Type") parts.media ++ (xs ++ (length_line (length parts.body) ++ []))) (optional_text (codes "Authorization") parts.authorization))

pub head_text : (parts : RequestParts) → print_request (head_of parts) ≡ request_head parts
unfolding print_request
head_text parts =
    (λ i. (((parts.method ++ 32 ∷ target_of parts) ++ 32 ∷ version_printed parts.close i) ++ crlf) ++ (section_text parts i ++ crlf))
    ∙ regroup parts.method (codes " ") parts.path (query_text parts.query) (version_text parts.close) crlf (codes "Host: ") (host_text parts.host_name parts.host_port)
    (value_line (codes "Content-Type") parts.media) (value_line (codes "Authorization") parts.authorization) (length_line (length parts.body))

-- ---- its lines

no_feed_in : (xs : List ℕ) → list_all (λ b. not (b == 10)) xs ≡ true → HasNoLineFeed xs
no_feed_in xs all = no_feed (λ b. not (b == 10)) refl xs all

version_no_feed : (close : Bool) → HasNoLineFeed (version_text close)
version_no_feed true = no_feed_in (codes "HTTP/1.0") refl
version_no_feed false = no_feed_in (codes "HTTP/1.1") refl

join_no_feed : (xs ys : List ℕ) → HasNoLineFeed xs → HasNoLineFeed ys → HasNoLineFeed (xs ++ ys)
join_no_feed xs ys one other = All-append (λ (b : ℕ). (b == 10) ≡ false) xs ys one other

four : (a b c d : List ℕ) → a ++ ((b ++ c) ++ d) ≡ ((a ++ b) ++ c) ++ d
four a b c d = simp append_assoc

-- what is known of a sound request
pub record Known (parts : RequestParts) : Type 0 where
  pub method : list_all is_token_byte parts.method ≡ true
  pub some : 0 < length parts.method
  pub target : (is_target (target_of parts) ≡ true) × (list_all is_target_byte (target_of parts) ≡ true) × (0 < length (target_of parts))
  pub path : list_any (λ b. b == 63) parts.path ≡ false
  pub host : IsHostOf (host_text parts.host_name parts.host_port) parts.host_name parts.host_port
  pub host_bytes : list_all is_visible (host_text parts.host_name parts.host_port) ≡ true
  pub media : list_all is_media_byte parts.media ≡ true
  pub media_front : skip_ows parts.media ≡ parts.media
  pub media_end : trim_end parts.media ≡ parts.media
  pub encoded : parts.encoded ≡ false
  pub authorization : list_all is_text_byte parts.authorization ≡ true
  pub authorization_front : skip_ows parts.authorization ≡ parts.authorization
  pub authorization_end : trim_end parts.authorization ≡ parts.authorization
  pub body : length parts.body < 10 ^ 19

some_bytes : (n : ℕ) → nat_lt 0 n ≡ true → 0 < n
some_bytes n test = grind (arith, nat_tests)

not_true : (t : Bool) → not t ≡ true → t ≡ false
not_true true test = absurd (cc)
not_true false test = refl

trimmed : (text : List ℕ) → is_trimmed text ≡ true → (skip_ows text ≡ text) × (trim_end text ≡ text)
trimmed text test =
    let both = and_split _ _ test in
    ((bytes_eq-Decides (skip_ows text) text).0 both.0, (bytes_eq-Decides (trim_end text) text).0 both.1)

pub known : (parts : RequestParts) → IsSoundRequest parts → Known parts
known parts sound =
    let method = and_split (nat_lt 0 (length parts.method)) (list_all is_token_byte parts.method) sound.method in
    let path = and_split (is_target parts.path) (not (list_any (λ b. b == 63) parts.path)) sound.path in
    let host : IsHostOf (host_text parts.host_name parts.host_port) parts.host_name parts.host_port
    = ∥∥₁_elim sound.host (hlevel props) (λ reading. host_back reading.0 parts.host_name parts.host_port reading.1) in
    let media = and_split (list_all is_media_byte parts.media) (is_trimmed parts.media) sound.media in
    let authorization = and_split (list_all is_text_byte parts.authorization) (is_trimmed parts.authorization) sound.authorization in
    record {
      method = method.1;
      some = some_bytes (length parts.method) method.0;
      target = target_back parts.path parts.query sound.path sound.query;
      path = not_true (list_any (λ b. b == 63) parts.path) path.1;
      host = host;
      host_bytes = host_visible (host_text parts.host_name parts.host_port) host.0;
      media = media.0;
      media_front = (trimmed parts.media media.1).0;
      media_end = (trimmed parts.media media.1).1;
      encoded = sound.encoded;
      authorization = authorization.0;
      authorization_front = (trimmed parts.authorization authorization.1).0;
      authorization_end = (trimmed parts.authorization authorization.1).1;
      body = sound.body;
    }

pub is_written_head : (parts : RequestParts) → Known parts → IsHead (request_head parts) × (has_bare_line_feed 0 (request_head parts) ≡ false)
is_written_head parts of =
    let host = host_text parts.host_name parts.host_port in
    let digits = decimal (length parts.body) in
    let line = ((((parts.method ++ codes " ") ++ parts.path) ++ query_text parts.query) ++ codes " ") ++ version_text parts.close in
    let target_line : HasNoLineFeed ((parts.method ++ codes " ") ++ target_of parts)
    = join_no_feed (parts.method ++ codes " ") (target_of parts) (join_no_feed parts.method (codes " ") (token_no_feed parts.method of.method) (no_feed_in (codes " ") refl))
    (no_feed is_target_byte refl (target_of parts) of.target.1) in
    let line_none : HasNoLineFeed line
    = join_no_feed ((((parts.method ++ codes " ") ++ parts.path) ++ query_text parts.query) ++ codes " ") (version_text parts.close)
    (join_no_feed (((parts.method ++ codes " ") ++ parts.path) ++ query_text parts.query) (codes " ")
    (subst HasNoLineFeed (sym (append_assoc (parts.method ++ codes " ") parts.path (query_text parts.query))) target_line) (no_feed_in (codes " ") refl)) (version_no_feed parts.close) in
    let one : IsLines (request_line parts) = add_line [] line no_lines line_none (omega (arith, length-append ((((parts.method ++ codes " ") ++ parts.path) ++ query_text parts.query) ++ codes " ") (version_text parts.close), length-append (((parts.method ++ codes " ") ++ parts.path) ++ query_text parts.query) (codes " "))) in
    let two : IsLines (((request_line parts ++ codes "Host: ") ++ host) ++ crlf)
    = subst IsLines (four (request_line parts) (codes "Host: ") host crlf)
    (add_line (request_line parts) (codes "Host: " ++ host) one (join_no_feed (codes "Host: ") host (no_feed_in (codes "Host: ") refl) (no_feed is_visible refl host of.host_bytes)) (omega (arith, length-append (codes "Host: ") host))) in
    let after_host = ((request_line parts ++ codes "Host: ") ++ host) ++ crlf in
    let three = add_value after_host (codes "Content-Type") parts.media two (no_feed_in (codes "Content-Type: ") refl) (no_feed is_media_byte refl parts.media of.media) in
    let after_media = after_host ++ value_line (codes "Content-Type") parts.media in
    let last = add_value after_media (codes "Authorization") parts.authorization three (no_feed_in (codes "Authorization: ") refl) (no_feed is_text_byte refl parts.authorization of.authorization) in
    let before = after_media ++ value_line (codes "Authorization") parts.authorization in
    let all = add_line before (codes "Content-Length: " ++ digits) last
    (join_no_feed (codes "Content-Length: ") digits (no_feed_in (codes "Content-Length: ") refl) (no_feed is_visible refl digits (decimal_visible (length parts.body) of.body)))
    (omega (arith, length-append (codes "Content-Length: ") digits)) in
    lines_are_head (before ++ length_line (length parts.body)) (before ++ (codes "Content-Length: " ++ digits)) all (sym (append_assoc before (codes "Content-Length: " ++ digits) crlf))

-- ---- it is a head of the grammar

token_name : (name : List ℕ) → is_token name ≡ true → IsToken name
token_name name test =
    let both = and_split (nat_lt 0 (length name)) (list_all is_token_byte name) test in
    (some_bytes (length name) both.0, AllPass-from_list_all is_token_byte name both.1)

host_token : is_token (codes "Host") ≡ true
unfolding is_token_byte
host_token = refl

media_token : is_token (codes "Content-Type") ≡ true
unfolding is_token_byte
media_token = refl

authorization_token : is_token (codes "Authorization") ≡ true
unfolding is_token_byte
authorization_token = refl

length_token : is_token (codes "Content-Length") ≡ true
unfolding is_token_byte
length_token = refl

good_field : (name value : List ℕ) → is_token name ≡ true → list_all is_text_byte value ≡ true → IsField (header_field name value)
good_field name value token text = record {
  name = token_name name token;
  raw = AllPass-from_list_all is_value_byte (32 ∷ value) (value_of_text value text);
}

good_optional : (name value : List ℕ) → is_token name ≡ true → list_all is_text_byte value ≡ true → All IsField (optional_field name value)
good_optional name [] token text = All-nil IsField
good_optional name (b ∷ value) token text = All-cons IsField (header_field name (b ∷ value)) [] (good_field name (b ∷ value) token text) (All-nil IsField)

minor_small : (close : Bool) → minor_of close ≤ 1
minor_small true = omega arith
minor_small false = omega arith

pub is_request_head : (parts : RequestParts) → Known parts → IsRequestHead (head_of parts)
is_request_head parts of = record {
  method = (of.some, AllPass-from_list_all is_token_byte parts.method of.method);
  target = (of.target.2, uri_of_target (target_of parts) of.target.1);
  target_text = IsUtf8-from_ascii (target_of parts) (target_is_ascii (target_of parts) of.target.0);
  minor = minor_small parts.close;
  fields = All-cons IsField (header_field (codes "Host") (host_text parts.host_name parts.host_port)) _
      (good_field (codes "Host") (host_text parts.host_name parts.host_port) host_token (text_of_visible (host_text parts.host_name parts.host_port) of.host_bytes))
      (All-append IsField (optional_field (codes "Content-Type") parts.media) _
      (good_optional (codes "Content-Type") parts.media media_token (text_of_media parts.media of.media))
      (All-append IsField (optional_field (codes "Authorization") parts.authorization) (header_field (codes "Content-Length") (decimal (length parts.body)) ∷ [])
      (good_optional (codes "Authorization") parts.authorization authorization_token of.authorization)
      (All-cons IsField (header_field (codes "Content-Length") (decimal (length parts.body))) []
      (good_field (codes "Content-Length") (decimal (length parts.body)) length_token (text_of_visible (decimal (length parts.body)) (decimal_visible (length parts.body) of.body)))
      (All-nil IsField))));
}

-- ---- what it says

abbrev pub optional_header : List ℕ → List ℕ → List (List ℕ × List ℕ)
optional_header name [] = []
optional_header name (b ∷ value) = (name, b ∷ value) ∷ []

abbrev pub headers_with : List ℕ → List ℕ → List ℕ → List ℕ → List (List ℕ × List ℕ)
headers_with host media authorization digits =
    (codes "Host", host) ∷ (optional_header (codes "Content-Type") media ++ (optional_header (codes "Authorization") authorization ++ (codes "Content-Length", digits) ∷ []))

abbrev pub headers_of : RequestParts → List (List ℕ × List ℕ)
headers_of parts = headers_with (host_text parts.host_name parts.host_port) parts.media parts.authorization (decimal (length parts.body))

abbrev pub written_head_parts : RequestParts → HeadParts
written_head_parts parts = record { method = parts.method; target = target_of parts; minor = minor_of parts.close; headers = headers_of parts }

-- a value with a space before it is read without the space
value_read : (value : List ℕ) → skip_ows value ≡ value → trim_end value ≡ value → trim_ows (32 ∷ value) ≡ value
unfolding trim_ows
value_read value front end = ap (λ v. reverse (skip_ows (reverse v))) front ∙ end

optional_read : (name value : List ℕ) → skip_ows value ≡ value → trim_end value ≡ value → map name_and_value (optional_field name value) ≡ optional_header name value
optional_read name [] front end = refl
optional_read name (b ∷ value) front end = ap (λ v. (name, v) ∷ []) (value_read (b ∷ value) front end)

visible_read : (value : List ℕ) → list_all is_visible value ≡ true → trim_ows (32 ∷ value) ≡ value
visible_read value all = value_read value (visible_front value all) (ap reverse (visible_end value all) ∙ reverse-reverse value)

headers_read : (parts : RequestParts) → Known parts → map name_and_value (fields_of parts) ≡ headers_of parts
headers_read parts of =
    let media = optional_read (codes "Content-Type") parts.media of.media_front of.media_end in
    let authorization = optional_read (codes "Authorization") parts.authorization of.authorization_front of.authorization_end in
    let host = visible_read (host_text parts.host_name parts.host_port) of.host_bytes in
    let digits = visible_read (decimal (length parts.body)) (decimal_visible (length parts.body) of.body) in
    let last : List Field = header_field (codes "Content-Length") (decimal (length parts.body)) ∷ [] in
    (λ i. (codes "Host", host i) ∷ map-append name_and_value (optional_field (codes "Content-Type") parts.media) (optional_field (codes "Authorization") parts.authorization ++ last) i)
    ∙ (λ i. (codes "Host", host_text parts.host_name parts.host_port) ∷ (media i ++ map-append name_and_value (optional_field (codes "Authorization") parts.authorization) last i))
    ∙ (λ i. (codes "Host", host_text parts.host_name parts.host_port) ∷ (optional_header (codes "Content-Type") parts.media ++ (authorization i ++ (codes "Content-Length", digits i) ∷ [])))

pub head_parts_read : (parts : RequestParts) → Known parts → written_head_parts parts ≡ head_parts_of (head_of parts)
head_parts_read parts of = λ i. record { method = parts.method; target = target_of parts; minor = minor_of parts.close; headers = sym (headers_read parts of) i }

-- ---- its headers, one after another

one_authorization : (host media authorization digits : List ℕ) → nat_lt 1 (count_of (codes "Authorization") (headers_with host media authorization digits)) ≡ false
unfolding is_same_text
one_authorization host [] [] digits = refl
one_authorization host [] (b ∷ value) digits = refl
one_authorization host (b ∷ value) [] digits = refl
one_authorization host (a ∷ media) (b ∷ value) digits = refl

one_media : (host media authorization digits : List ℕ) → nat_lt 1 (count_of (codes "Content-Type") (headers_with host media authorization digits)) ≡ false
unfolding is_same_text
one_media host [] [] digits = refl
one_media host [] (b ∷ value) digits = refl
one_media host (b ∷ value) [] digits = refl
one_media host (a ∷ media) (b ∷ value) digits = refl

hosts_in : (host media authorization digits : List ℕ) → values_of (codes "Host") (headers_with host media authorization digits) ≡ host ∷ []
unfolding is_same_text
hosts_in host [] [] digits = refl
hosts_in host [] (b ∷ value) digits = refl
hosts_in host (b ∷ value) [] digits = refl
hosts_in host (a ∷ media) (b ∷ value) digits = refl

lengths_in : (host media authorization digits : List ℕ) → values_of (codes "Content-Length") (headers_with host media authorization digits) ≡ digits ∷ []
unfolding is_same_text
lengths_in host [] [] digits = refl
lengths_in host [] (b ∷ value) digits = refl
lengths_in host (b ∷ value) [] digits = refl
lengths_in host (a ∷ media) (b ∷ value) digits = refl

encodings_in : (host media authorization digits : List ℕ) → values_of (codes "Transfer-Encoding") (headers_with host media authorization digits) ≡ []
unfolding is_same_text
encodings_in host [] [] digits = refl
encodings_in host [] (b ∷ value) digits = refl
encodings_in host (b ∷ value) [] digits = refl
encodings_in host (a ∷ media) (b ∷ value) digits = refl

media_first : (host media authorization digits : List ℕ) → first_in (values_of (codes "Content-Type") (headers_with host media authorization digits)) ≡ media
unfolding is_same_text
media_first host [] [] digits = refl
media_first host [] (b ∷ value) digits = refl
media_first host (b ∷ value) [] digits = refl
media_first host (a ∷ media) (b ∷ value) digits = refl

authorization_first : (host media authorization digits : List ℕ) → first_in (values_of (codes "Authorization") (headers_with host media authorization digits)) ≡ authorization
unfolding is_same_text
authorization_first host [] [] digits = refl
authorization_first host [] (b ∷ value) digits = refl
authorization_first host (b ∷ value) [] digits = refl
authorization_first host (a ∷ media) (b ∷ value) digits = refl

pub not_encoded : (host media authorization digits : List ℕ) → list_any is_encoding (headers_with host media authorization digits) ≡ false
unfolding is_same_text
not_encoded host [] [] digits = refl
not_encoded host [] (b ∷ value) digits = refl
not_encoded host (b ∷ value) [] digits = refl
not_encoded host (a ∷ media) (b ∷ value) digits = refl

not_closing : (host media authorization digits : List ℕ) → list_any is_closing (headers_with host media authorization digits) ≡ false
unfolding is_same_text
not_closing host [] [] digits = refl
not_closing host [] (b ∷ value) digits = refl
not_closing host (b ∷ value) [] digits = refl
not_closing host (a ∷ media) (b ∷ value) digits = refl

nor : (x y : Bool) → x ≡ false → y ≡ false → (x || y) ≡ false
nor true y one other = absurd (cc)
nor false y one other = other

nand : (x y : Bool) → y ≡ true → (x && not y) ≡ false
nand true y is = ap not is
nand false y is = refl

good_header : (name value : List ℕ) → list_all is_text_byte value ≡ true → is_bad_header (name, value) ≡ false
good_header name value text = nand (is_read_header (name, value)) (list_all is_text_byte value) text

optional_good : (name value : List ℕ) (rest : List (List ℕ × List ℕ)) → list_all is_text_byte value ≡ true → list_any is_bad_header rest ≡ false → list_any is_bad_header (optional_header name value ++ rest) ≡ false
optional_good name [] rest text good = good
optional_good name (b ∷ value) rest text good = nor (is_bad_header (name, b ∷ value)) (list_any is_bad_header rest) (good_header name (b ∷ value) text) good

headers_good : (parts : RequestParts) → Known parts → has_bad_header (headers_of parts) ≡ false
headers_good parts of =
    let host = host_text parts.host_name parts.host_port in
    let digits = decimal (length parts.body) in
    let last : list_any is_bad_header ((codes "Content-Length", digits) ∷ []) ≡ false
    = nor (is_bad_header (codes "Content-Length", digits)) false (good_header (codes "Content-Length") digits (text_of_visible digits (decimal_visible (length parts.body) of.body))) refl in
    nor (nat_lt 1 (count_of (codes "Authorization") (headers_of parts))) _ (one_authorization host parts.media parts.authorization digits)
    (nor (nat_lt 1 (count_of (codes "Content-Type") (headers_of parts))) _ (one_media host parts.media parts.authorization digits)
    (nor (is_bad_header (codes "Host", host)) _ (good_header (codes "Host") host (text_of_visible host of.host_bytes))
    (optional_good (codes "Content-Type") parts.media _ (text_of_media parts.media of.media)
    (optional_good (codes "Authorization") parts.authorization ((codes "Content-Length", digits) ∷ []) of.authorization last))))

-- ---- no condition holds

fault_free : (b : Bool) (f : WireFault) (o : Option WireFault) → b ≡ false → o ≡ None → cond b (Some f) o ≡ None
fault_free true f o holds rest = absurd (cc)
fault_free false f o holds rest = rest

not_of : (b : Bool) → b ≡ true → not b ≡ false
not_of b is = ap not is

not_above : (x y : ℕ) → y ≤ x → nat_lt x y ≡ false
not_above x y within = grind (arith, nat_tests)

not_begun : (bytes rest : List ℕ) → list_all is_token_byte bytes ≡ true → 0 < length bytes → starts_with nat_eq (bytes ++ rest) (13 ∷ 10 ∷ []) ≡ false
not_begun [] rest all some = absurd (omega arith)
not_begun (b ∷ bytes) rest all some =
    let other = token_no_return b (and_split (is_token_byte b) (list_all is_token_byte bytes) all).0 in
    first_byte b bytes rest other
  where
    first_byte : (c : ℕ) (cs more : List ℕ) → (c == 13) ≡ false → starts_with nat_eq ((c ∷ cs) ++ more) (13 ∷ 10 ∷ []) ≡ false
    first_byte c [] [] other = grind (arith, nat_tests)
    first_byte c [] (m ∷ more) other = grind (arith, nat_tests)
    first_byte c (d ∷ cs) more other = grind (arith, nat_tests)

head_begins : (m a b c d e f g h i j k l n : List ℕ) → (((((((((((((m ++ a) ++ b) ++ c) ++ d) ++ e) ++ f) ++ g) ++ h) ++ i) ++ j) ++ k) ++ l) ++ n) ≡ m ++ (a ++ (b ++ (c ++ (d ++ (e ++ (f ++ (g ++ (h ++ (i ++ (j ++ (k ++ (l ++ n))))))))))))
head_begins m a b c d e f g h i j k l n = simp append_assoc

lines_fine : (limits : Limits) (parts : RequestParts) → Known parts → Holds limits parts → first_fault (line_conditions limits (request_head parts)) ≡ None
lines_fine limits parts of holds =
    let begins = head_begins parts.method (codes " ") parts.path (query_text parts.query) (codes " ") (version_text parts.close) crlf (codes "Host: ") (host_text parts.host_name parts.host_port) crlf
    (value_line (codes "Content-Type") parts.media) (value_line (codes "Authorization") parts.authorization) (length_line (length parts.body)) crlf in
    fault_free (nat_lt (limits.headers + 2) (line_ends 0 (request_head parts))) TooManyHeaders _ (not_above (limits.headers + 2) (line_ends 0 (request_head parts)) holds.headers)
    (fault_free (has_bare_line_feed 0 (request_head parts)) BadHead _ (is_written_head parts of).1
    (fault_free (starts_with nat_eq (request_head parts) (13 ∷ 10 ∷ [])) BadHead None
    (ap (λ xs. starts_with nat_eq xs (13 ∷ 10 ∷ [])) begins ∙ not_begun parts.method _ of.method of.some) refl))

parts_fine : (limits : Limits) (parts : RequestParts) → Known parts → Holds limits parts → first_fault (part_conditions limits (written_head_parts parts)) ≡ None
parts_fine limits parts of holds =
    let host = host_text parts.host_name parts.host_port in
    let digits = decimal (length parts.body) in
    let headers = headers_of parts in
    let back = length_back (length parts.body) of.body in
    let lengths = lengths_in host parts.media parts.authorization digits in
    fault_free (has_bad_header headers) BadHead _ (headers_good parts of)
    (fault_free (not (is_target (target_of parts))) BadTarget _ (not_of (is_target (target_of parts)) of.target.0)
    (fault_free (not (is_one_host (values_of (codes "Host") headers))) BadHost _ (not_of (is_one_host (values_of (codes "Host") headers)) (ap is_one_host (hosts_in host parts.media parts.authorization digits) ∙ of.host.0))
    (fault_free (not (is_none (values_of (codes "Transfer-Encoding") headers))) Chunked _ (not_of (is_none (values_of (codes "Transfer-Encoding") headers)) (ap is_none (encodings_in host parts.media parts.authorization digits)))
    (fault_free (is_bad_length (values_of (codes "Content-Length") headers)) BadLength _ (ap is_bad_length lengths ∙ not_of (is_length digits) back.0)
    (fault_free (is_none (values_of (codes "Content-Length") headers) && has_body parts.method) LengthMissing _ (ap (λ v. is_none v && has_body parts.method) lengths)
    (fault_free (nat_lt limits.body (length_in (values_of (codes "Content-Length") headers))) BodyTooLong None
    (not_above limits.body (length_in (values_of (codes "Content-Length") headers)) (subst (λ (n : ℕ). n ≤ limits.body) (sym (ap length_in lengths ∙ back.1)) holds.body)) refl))))))

close_read : (close : Bool) → (minor_of close == 0 || false) ≡ close
close_read true = refl
close_read false = refl

media_read : (media : List ℕ) → list_all is_media_byte media ≡ true → trim_end media ≡ media → media_in media ≡ media
media_read media all end =
    let kept = media_kept media all in
    ap (λ m. map to_ascii_lowercase (trim_end m)) kept.0 ∙ ap (map to_ascii_lowercase) end ∙ kept.1

parts_read : (parts : RequestParts) → Known parts → request_of (written_head_parts parts) parts.body ≡ parts
parts_read parts of =
    let host = host_text parts.host_name parts.host_port in
    let digits = decimal (length parts.body) in
    let cut = cut_back parts.path parts.query of.path in
    let hosts = ap host_parts (ap first_in (hosts_in host parts.media parts.authorization digits)) ∙ of.host.1 in
    let media = ap media_in (media_first host parts.media parts.authorization digits) ∙ media_read parts.media of.media of.media_end in
    let encoded = not_encoded host parts.media parts.authorization digits ∙ sym of.encoded in
    let authorization = authorization_first host parts.media parts.authorization digits in
    let close = ap (λ t. minor_of parts.close == 0 || t) (not_closing host parts.media parts.authorization digits) ∙ close_read parts.close in
    λ i. record {
      method = parts.method;
      path = cut.0 i;
      query = cut.1 i;
      host_name = (hosts i).0;
      host_port = (hosts i).1;
      media = media i;
      encoded = encoded i;
      authorization = authorization i;
      body = parts.body;
      close = close i;
    }

-- a written request is read back
pub written_is_read : WrittenIsRead
written_is_read limits parts sound holds =
    let of = known parts sound in
    let lengths = lengths_in (host_text parts.host_name parts.host_port) parts.media parts.authorization (decimal (length parts.body)) in
    record {
      head = request_head parts;
      head_parts = written_head_parts parts;
      is_head = (is_written_head parts of).0;
      fits = holds.head;
      reads = record {
        lines = lines_fine limits parts of holds;
        parsed = head_of parts;
        reads = (is_request_head parts of, sym (append-nil (print_request (head_of parts)) ∙ head_text parts));
        is = head_parts_read parts of;
        parts = parts_fine limits parts of holds;
      };
      body = sym (ap length_in lengths ∙ (length_back (length parts.body) of.body).1);
      is = refl;
      parts_are = sym (parts_read parts of);
    }
