-- A request has one answer.
use Rattle.std.specs.Prelude.{◌≡◌}
use Rattle.http_wire.specs.Message.{RequestParts}
use Rattle.oauth_request.specs.Checked.{Terms, IsWellSigned, IsAuthFault, Says}
use Rattle.oauth_request.specs.declared.checking.Signed.{Signed}
use Rattle.oauth_request.specs.declared.faults.AuthFault.{AuthFault}
use Rattle.oauth_request.specs.declared.faults.AuthFault.TheVariants.{NoMemory}

-- A well signed request has no fault, another has one, and a request says one thing of itself; want of memory apart.
pub record OneAnswer (terms : Terms) (q : RequestParts) : Type 0 where
  pub none : (fault : AuthFault) → IsWellSigned terms q → IsAuthFault terms q fault → fault ≡ NoMemory
  pub one : (fault other : AuthFault) → IsAuthFault terms q fault → IsAuthFault terms q other → (fault ≡ NoMemory → ⊥) → (other ≡ NoMemory → ⊥) → fault ≡ other
  pub said : (signed other : Signed) → Says q signed → Says q other → signed ≡ other
