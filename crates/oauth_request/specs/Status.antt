-- The statuses of faults, and the faults that the readers of forms and headers give (this project's own).
use Rattle.std.specs.Prelude.{ℕ}
use Rattle.oauth_text.specs.declared.forms.FormFault.{FormFault}
use Rattle.oauth_text.specs.declared.forms.FormFault.TheVariants as form
use Rattle.oauth_header.specs.declared.faults.HeaderFault.{HeaderFault}
use Rattle.oauth_header.specs.declared.faults.HeaderFault.TheVariants as header
use Rattle.oauth_request.specs.declared.faults.AuthFault.{AuthFault}
use Rattle.oauth_request.specs.declared.faults.AuthFault.TheVariants.{BadAuthorization, BadForm, UnknownKey, BodyHashMismatch, SignatureMismatch, NoMemory}

abbrev pub status_of : AuthFault → ℕ
status_of UnknownKey = 401
status_of BodyHashMismatch = 401
status_of SignatureMismatch = 401
status_of NoMemory = 503
status_of _ = 400

abbrev pub fault_of_form : FormFault → AuthFault
fault_of_form form.BadForm = BadForm
fault_of_form form.NoMemory = NoMemory

abbrev pub fault_of_header : HeaderFault → AuthFault
fault_of_header (header.BadAuthorization at) = BadAuthorization at
fault_of_header header.NoMemory = NoMemory
