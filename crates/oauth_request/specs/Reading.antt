-- Why the parameters of a request have no reading.
use Rattle.std.specs.Prelude.{◌≡◌, ◌⊎◌, true, ⊤}
use Rattle.oauth_text.specs.Form.{IsForm}
use Rattle.oauth_header.specs.Header.{IsHeader, IsFirstBad, items_of}
use Rattle.http_wire.specs.Message.{RequestParts}
use Rattle.oauth_request.specs.Checked.{is_form}
use Rattle.oauth_request.specs.declared.faults.AuthFault.{AuthFault}
use Rattle.oauth_request.specs.declared.faults.AuthFault.TheVariants.{BadAuthorization, BadForm, NoMemory}

-- the first part that has no reading
abbrev pub IsReadingFault : RequestParts → AuthFault → Type 0
IsReadingFault q (BadAuthorization at) = IsFirstBad (items_of q.authorization) at
IsReadingFault q BadForm = IsHeader q.authorization × ((¬ IsForm q.query) ⊎ ((is_form q ≡ true) × (¬ IsForm q.body)))
IsReadingFault q NoMemory = ⊤
IsReadingFault q fault = ⊥
