-- A written request is read back.
use Rattle.std.specs.Prelude.{◌≤◌, ◌+◌, length}
use Rattle.lti_outside.specs.declared.limits.Limits.{Limits}
use Rattle.http_wire.specs.Lines.{line_ends}
use Rattle.http_wire.specs.Message.{RequestParts}
use Rattle.http_wire.specs.Spelling.{Spelling}
use Rattle.http_wire.specs.Written.{IsSoundRequest, request_head, request_text}

-- the limits hold the request's head, its header lines and its body
pub record Holds (limits : Limits) (parts : RequestParts) : Type 0 where
  pub head : length (request_head parts) ≤ limits.head
  pub headers : line_ends 0 (request_head parts) ≤ limits.headers + 2
  pub body : length parts.body ≤ limits.body

-- the text of a request is a spelling of it, where the limits hold it
abbrev pub WrittenIsRead : Type 0
WrittenIsRead = (limits : Limits) (parts : RequestParts) → IsSoundRequest parts → Holds limits parts → Spelling limits (request_text parts) parts

-- no other request's text is a spelling of it
abbrev pub OnlySoundIsRead : Type 0
OnlySoundIsRead = (limits : Limits) (parts : RequestParts) → Spelling limits (request_text parts) parts → IsSoundRequest parts
