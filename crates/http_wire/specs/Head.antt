-- What the head of a request says, and its faults in their order.
use Rattle.std.specs.Prelude.{◌==◌, ◌&&◌, ◌||◌, not, nat_lt, nat_le, ℕ, Bool, false, List, [], ◌∷◌, map, codes}
use Rattle.std.specs.List.{list_all, list_any, before_first, after_first}
use Rattle.httparse.specs.Grammar.{RequestHead, ReadsRequest}
use Rattle.httparse.specs.Spans.{name_and_value}
use Rattle.lti_outside.specs.declared.limits.Limits.{Limits}
use Rattle.oauth_text.specs.Host.{host_parts}
use Rattle.http_wire.specs.declared.fault.WireFault.{WireFault}
use Rattle.http_wire.specs.declared.fault.WireFault.TheVariants.{BadHead, BadTarget, BadHost, Chunked, BadLength, LengthMissing, BodyTooLong}
use Rattle.http_wire.specs.Conditions.{Condition}
use Rattle.http_wire.specs.Reading.{Reads, ReadingFault}
use Rattle.http_wire.specs.Headers.{values_of, first_in, is_none, has_bad_header, media_in, is_encoding, is_closing, is_one_host, is_bad_length, length_in, has_body}
use Rattle.http_wire.specs.Message.{RequestParts}

-- a head as it was read: the method, the target, the minor version and the headers
pub record HeadParts : Type 0 where
  pub method : List ℕ
  pub target : List ℕ
  pub minor : ℕ
  pub headers : List (List ℕ × List ℕ)

abbrev pub head_parts_of : RequestHead → HeadParts
head_parts_of h = record { method = h.method; target = h.target; minor = h.minor; headers = map name_and_value h.fields }

-- a visible byte of ASCII but `#`
abbrev pub is_target_byte : ℕ → Bool
is_target_byte b = nat_le 33 b && nat_le b 126 && not (b == 35)

-- a target in origin form, without a fragment (RFC 9112, section 3.2.1)
abbrev pub is_target : List ℕ → Bool
is_target [] = false
is_target (b ∷ bytes) = b == 47 && list_all is_target_byte bytes

-- the conditions on the length of a body
abbrev pub length_conditions : Limits → List ℕ → List (List ℕ) → List (Condition WireFault)
length_conditions limits method values =
    record { holds = is_bad_length values; fault = BadLength }
    ∷ record { holds = is_none values && has_body method; fault = LengthMissing }
    ∷ record { holds = nat_lt limits.body (length_in values); fault = BodyTooLong } ∷ []

-- the conditions on the parts of a head
abbrev pub part_conditions : Limits → HeadParts → List (Condition WireFault)
part_conditions limits head_parts =
    record { holds = has_bad_header head_parts.headers; fault = BadHead }
    ∷ record { holds = not (is_target head_parts.target); fault = BadTarget }
    ∷ record { holds = not (is_one_host (values_of (codes "Host") head_parts.headers)); fault = BadHost }
    ∷ record { holds = not (is_none (values_of (codes "Transfer-Encoding") head_parts.headers)); fault = Chunked }
    ∷ length_conditions limits head_parts.method (values_of (codes "Content-Length") head_parts.headers)

-- the length of the body
abbrev pub body_length : HeadParts → ℕ
body_length head_parts = length_in (values_of (codes "Content-Length") head_parts.headers)

-- the request of a head and a body
abbrev pub request_of : HeadParts → List ℕ → RequestParts
request_of head_parts body = record {
  method = head_parts.method;
  path = before_first (λ b. b == 63) head_parts.target;
  query = after_first (λ b. b == 63) head_parts.target;
  host_name = (host_parts (first_in (values_of (codes "Host") head_parts.headers))).0;
  host_port = (host_parts (first_in (values_of (codes "Host") head_parts.headers))).1;
  media = media_in (first_in (values_of (codes "Content-Type") head_parts.headers));
  encoded = list_any is_encoding head_parts.headers;
  authorization = first_in (values_of (codes "Authorization") head_parts.headers);
  body = body;
  close = head_parts.minor == 0 || list_any is_closing head_parts.headers;
}

-- the bytes are a head of a request
abbrev pub IsRequestOf : List ℕ → RequestHead → Type 0
IsRequestOf head parsed = ReadsRequest head parsed []

-- the bytes are a head without fault, which says this
abbrev pub HeadReads : Limits → List ℕ → HeadParts → Type 0
HeadReads limits head head_parts = Reads IsRequestOf head_parts_of (part_conditions limits) limits head head_parts

-- the first fault of the head: of its lines, that it is no head of the grammar, of its parts
abbrev pub HeadFault : Limits → List ℕ → WireFault → Type 0
HeadFault limits head fault = ReadingFault IsRequestOf head_parts_of (part_conditions limits) limits head fault
