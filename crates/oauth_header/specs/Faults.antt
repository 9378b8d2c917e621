-- What a fault says of the header's items.
use Rattle.std.specs.Prelude.{◌≡◌, ℕ, List, ⊤}
use Rattle.oauth_header.specs.Items.{Placed}
use Rattle.oauth_header.specs.Header.{IsFirstBad}
use Rattle.oauth_header.specs.declared.faults.HeaderFault.{HeaderFault}
use Rattle.oauth_header.specs.declared.faults.HeaderFault.TheVariants.{BadAuthorization, NoMemory}

-- `BadAuthorization` gives the place of the first item that has no reading; `NoMemory` says nothing of them
abbrev pub IsFaultOf : List Placed → HeaderFault → Type 0
IsFaultOf items (BadAuthorization at) = IsFirstBad items at
IsFaultOf items NoMemory = ⊤

-- `BadAuthorization` gives this place, and the statement holds; `NoMemory` says nothing
abbrev pub IsFaultAt : ℕ → Type 0 → HeaderFault → Type 0
IsFaultAt place P (BadAuthorization at) = (at ≡ place) × P
IsFaultAt place P NoMemory = ⊤
