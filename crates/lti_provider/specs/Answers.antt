-- The answers to requests (this project's own; the statuses are those of RFC 9110, section 15).
use Rattle.std.specs.Prelude.{◌≡◌, ◌⊎◌, ℕ, List, [], ◌∷◌, ◌++◌, codes, decimal, bytes_eq, if◌then◌else◌, Option, None, Some}
use Rattle.http_wire.specs.Message.{RequestParts, ResponseParts}
use Rattle.http_wire.specs.declared.message.Media.TheVariants.{Plain, Xml}
use Rattle.http_wire.specs.declared.fault.WireFault.{WireFault}
use Rattle.http_wire.specs.declared.fault.WireFault.TheVariants as wire
use Rattle.oauth_request.specs.Protocol as protocol
use Rattle.oauth_request.specs.Status.{status_of}
use Rattle.oauth_request.specs.declared.faults.AuthFault.{AuthFault}
use Rattle.oauth_request.specs.declared.faults.AuthFault.TheVariants as auth
use Rattle.lti_launch.specs.Fields.{name_of}
use Rattle.lti_launch.specs.declared.fields.LaunchField.TheVariants.{ResourceLinkId}
use Rattle.lti_launch.specs.declared.fault.LaunchFault.{LaunchFault}
use Rattle.lti_launch.specs.declared.fault.LaunchFault.TheVariants as launch
use Rattle.pox_outcomes.specs.Answered.{answer_text}
use Rattle.pox_outcomes.specs.declared.outcome.Outcome.{Outcome}
use Rattle.pox_outcomes.specs.declared.told.Told.{Told}
use Rattle.lti_asks.specs.Outcomes.{IsTold}
use Rattle.lti_machine.specs.declared.reply.Reply.{Reply}
use Rattle.lti_machine.specs.declared.reply.Reply.TheVariants as reply

-- an answer of plain text, with its LF
abbrev pub plain : ℕ → List ℕ → ResponseParts
plain status text = record { status = status; media = Plain; body = text ++ 10 ∷ [] }

-- there was no memory to answer otherwise
abbrev pub no_memory_answer : ResponseParts
no_memory_answer = plain 503 (codes "want of memory")

-- an answer to HEAD has no body (RFC 9110, section 9.3.2)
abbrev pub answer_to : RequestParts → ResponseParts → ResponseParts
answer_to q answer = if bytes_eq q.method (codes "HEAD") then record answer { body = [] } else answer

-- the answer to a fault of the wire; an input that ends inside a message, and one that can't be read, have none
abbrev pub wire_answer : WireFault → Option ResponseParts
wire_answer wire.BadHead = Some (plain 400 (codes "bad head"))
wire_answer wire.HeadTooLong = Some (plain 431 (codes "head too long"))
wire_answer wire.TooManyHeaders = Some (plain 431 (codes "too many headers"))
wire_answer wire.BadTarget = Some (plain 400 (codes "bad target"))
wire_answer wire.BadHost = Some (plain 400 (codes "bad host"))
wire_answer wire.Chunked = Some (plain 501 (codes "chunked bodies are not supported"))
wire_answer wire.BadLength = Some (plain 400 (codes "bad length"))
wire_answer wire.LengthMissing = Some (plain 411 (codes "length missing"))
wire_answer wire.BodyTooLong = Some (plain 413 (codes "body too long"))
wire_answer wire.CutShort = None
wire_answer wire.ReadFault = None
wire_answer wire.NoMemory = Some no_memory_answer

-- what is said of a request that isn't well signed
abbrev pub auth_text : AuthFault → List ℕ
auth_text (auth.BadAuthorization at) = codes "bad authorization at " ++ decimal at
auth_text auth.BadForm = codes "bad form"
auth_text (auth.Duplicate field) = codes "duplicate " ++ protocol.name_of field
auth_text (auth.Missing field) = codes "missing " ++ protocol.name_of field
auth_text auth.UnsupportedMethod = codes "unsupported signature method"
auth_text auth.BadVersion = codes "bad version"
auth_text auth.TokenNotSupported = codes "token not supported"
auth_text auth.BadTimestamp = codes "bad timestamp"
auth_text auth.BadNonce = codes "bad nonce"
auth_text auth.TooLong = codes "key or nonce too long"
auth_text auth.UnknownKey = codes "unknown key"
auth_text auth.BodyHashMismatch = codes "body hash mismatch"
auth_text auth.SignatureMismatch = codes "signature mismatch"
auth_text auth.NoMemory = codes "want of memory"

abbrev pub auth_answer : AuthFault → ResponseParts
auth_answer fault = plain (status_of fault) (auth_text fault)

-- what is said of a message that is no launch
abbrev pub launch_text : LaunchFault → List ℕ
launch_text launch.WrongType = codes "wrong message type"
launch_text launch.WrongVersion = codes "wrong lti version"
launch_text launch.Missing = codes "missing " ++ name_of ResourceLinkId
launch_text (launch.Repeated field) = codes "repeated " ++ name_of field
launch_text launch.NoMemory = codes "want of memory"

abbrev pub launch_answer : LaunchFault → ResponseParts
launch_answer fault = plain 400 (launch_text fault)

-- the answer to a body that is no envelope, of which so many bytes begin one
abbrev pub envelope_answer : ℕ → ResponseParts
envelope_answer at = plain 400 (codes "bad envelope at " ++ decimal at)

-- the answer in plain text to a reply of the machine; a reply to an accepted outcome has none, and is told in an envelope
abbrev pub plain_answer : Reply → Option ResponseParts
plain_answer reply.Noted = Some (plain 200 (codes "selection requested"))
plain_answer reply.Launched = Some (plain 200 (codes "launched"))
plain_answer (reply.Outside now) = Some (plain 401 (codes "outside the window at " ++ decimal now))
plain_answer reply.Used = Some (plain 401 (codes "nonce already used"))
plain_answer (reply.WindowFull live) = Some (plain 503 (codes "window full at " ++ decimal live))
plain_answer (reply.JournalFull free) = Some (plain 503 (codes "journal full, " ++ decimal free ++ codes " free"))
plain_answer (reply.DiskFault faults) = Some (plain 503 (codes "disk fault"))
plain_answer reply.RunFull = Some (plain 503 (codes "run full"))
plain_answer reply.NoMemory = Some no_memory_answer
plain_answer given = None

-- the envelope that tells what became of an outcome (LTI 1.1.1, section 6)
abbrev pub told_answer : Outcome → Told → ResponseParts
told_answer outcome told = record { status = 200; media = Xml; body = answer_text outcome told }

-- the answer renders the reply to a request, where the request is an outcome's or none
abbrev pub IsRendered : Option Outcome → Reply → ResponseParts → Type 0
IsRendered None given answer = plain_answer given ≡ Some answer
IsRendered (Some outcome) given answer =
    (plain_answer given ≡ Some answer) ⊎ ((told : Told) × IsTold outcome given told × (answer ≡ told_answer outcome told))
