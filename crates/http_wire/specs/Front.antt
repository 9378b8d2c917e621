-- What reading the head of a request answers.
use Rattle.std.specs.Prelude.{◌≡◌, ◌==◌, ◌||◌, ℕ, List, [], codes, ⊤, Option, Result}
use Rattle.std.specs.List.{list_any, before_first, after_first}
use Rattle.lti_outside.specs.declared.limits.Limits.{Limits}
use Rattle.http_wire.specs.declared.head.Front.{Front}
use Rattle.http_wire.specs.declared.fault.WireFault.{WireFault}
use Rattle.http_wire.specs.Reading.{Tells, Judges}
use Rattle.http_wire.specs.declared.message.Request.{Request}
use Rattle.http_wire.specs.Message.{parts_of}
use Rattle.http_wire.specs.Headers.{values_of, first_in, media_in, is_encoding, is_closing}
use Rattle.http_wire.specs.Head.{HeadParts, part_conditions, body_length, request_of, HeadReads, HeadFault}

-- the request without its body, and the body's length
pub record IsFront (head_parts : HeadParts) (front : Front) : Type 0 where
  pub request : parts_of front.request ≡ request_of head_parts []
  pub length : front.length ≡ body_length head_parts

abbrev pub HeadTells : Limits → List ℕ → Result Front WireFault → Type 0
HeadTells limits head result =
    Tells (λ front. (head_parts : HeadParts) × HeadReads limits head head_parts × IsFront head_parts front) ⊤ (HeadFault limits head) result

-- the same of the parts alone
abbrev pub PartsTell : Limits → HeadParts → Result Front WireFault → Type 0
PartsTell limits head_parts result = Judges (part_conditions limits head_parts) (IsFront head_parts) ⊤ result

-- what is kept of a head, but for the body, whose length is read apart
pub record IsKept (head_parts : HeadParts) (name : List ℕ) (port : Option ℕ) (request : Request) : Type 0 where
  pub method : request.method ≡ head_parts.method
  pub path : request.path ≡ before_first (λ b. b == 63) head_parts.target
  pub query : request.query ≡ after_first (λ b. b == 63) head_parts.target
  pub host_name : request.host.name ≡ name
  pub host_port : request.host.port ≡ port
  pub media : request.media ≡ media_in (first_in (values_of (codes "Content-Type") head_parts.headers))
  pub encoded : request.encoded ≡ list_any is_encoding head_parts.headers
  pub authorization : request.authorization ≡ first_in (values_of (codes "Authorization") head_parts.headers)
  pub body : request.body.list ≡ []
  pub close : request.close ≡ (head_parts.minor == 0 || list_any is_closing head_parts.headers)
