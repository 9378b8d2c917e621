-- What a posted form is: one with a fault of status 400, one with a fault of status 401, or a well signed one
-- (RFC 5849, section 3.2). The request is a POST of the line to the URL, without an Authorization header.
use Rattle.std.specs.Prelude.{◌≡◌, ℕ, false, List, [], ◌∷◌, codes}
use Rattle.oauth_text.specs.Url.{UrlParts}
use Rattle.http_wire.specs.Message.{RequestParts}
use Rattle.oauth_request.specs.Checked as request
use Rattle.oauth_request.specs.Status.{status_of}
use Rattle.oauth_request.specs.declared.checking.Signed.{Signed}
use Rattle.oauth_request.specs.declared.faults.AuthFault.{AuthFault}
use Rattle.lti_words.specs.Command.{CheckCommand}

-- the request that posts a form to the URL
abbrev pub request_of : UrlParts → List ℕ → RequestParts
request_of url form = record {
  method = codes "POST";
  path = url.path;
  query = url.query;
  host_name = url.name;
  host_port = url.port;
  media = request.form_type;
  encoded = false;
  authorization = [];
  body = form;
  close = false;
}

-- it is checked under the one key, and a key or nonce has at most `field` bytes
abbrev pub terms_of : CheckCommand → ℕ → request.Terms
terms_of command field = record { keys = record { name = command.key; value = command.secret } ∷ []; scheme = command.url.scheme; field = field }

-- the request has a fault of this status
abbrev pub HasFault : ℕ → CheckCommand → ℕ → List ℕ → Type 0
HasFault status command field form =
    (fault : AuthFault) × (status_of fault ≡ status) × request.IsAuthFault (terms_of command field) (request_of command.url form) fault

-- the request is well signed, under the command's key and secret, and says this of itself
pub record IsWellSigned (command : CheckCommand) (field : ℕ) (form : List ℕ) (signed : Signed) : Type 0 where
  pub well_signed : request.IsWellSigned (terms_of command field) (request_of command.url form)
  pub says : request.Says (request_of command.url form) signed
