-- Messages by the values of their fields, without the room that a value's memory has for more.
use Rattle.std.specs.Prelude.{ℕ, Bool, List, Option}
use Rattle.http_wire.specs.declared.message.Media.{Media}
use Rattle.http_wire.specs.declared.message.Request.{Request}
use Rattle.http_wire.specs.declared.message.Response.{Response}
use Rattle.http_wire.specs.declared.message.Answered.{Answered}

-- a request
pub record RequestParts : Type 0 where
  pub method : List ℕ
  pub path : List ℕ
  pub query : List ℕ
  pub host_name : List ℕ
  pub host_port : Option ℕ
  pub media : List ℕ
  pub encoded : Bool
  pub authorization : List ℕ
  pub body : List ℕ
  pub close : Bool

abbrev pub parts_of : Request → RequestParts
parts_of request = record {
  method = request.method;
  path = request.path;
  query = request.query;
  host_name = request.host.name;
  host_port = request.host.port;
  media = request.media;
  encoded = request.encoded;
  authorization = request.authorization;
  body = request.body.list;
  close = request.close;
}

-- an answer that is written
pub record ResponseParts : Type 0 where
  pub status : ℕ
  pub media : Media
  pub body : List ℕ

abbrev pub response_parts_of : Response → ResponseParts
response_parts_of response = record { status = response.status; media = response.media; body = response.body.list }

-- an answer that was read
pub record AnswerParts : Type 0 where
  pub status : ℕ
  pub media : List ℕ
  pub body : List ℕ

abbrev pub answer_parts_of : Answered → AnswerParts
answer_parts_of answered = record { status = answered.status; media = answered.media; body = answered.body.list }
