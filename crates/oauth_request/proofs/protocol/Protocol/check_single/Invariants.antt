use Rattle.std.proofs.Common.{◌≡◌, List}
use Rattle.lti_outside.specs.declared.pairs.Pair.{Pair}
use Rattle.http_wire.specs.Conditions.{first_fault}
use Rattle.oauth_request.specs.Conditions.{duplicate_conditions}
use Rattle.oauth_request.specs.Found.{AreFoundIn}
use Rattle.oauth_request.proofs.ProtocolLemmas.{duplicates_from}
use Rattle.oauth_request.proofs.protocol.Protocol.check_single.Given as goal

-- no field so far stands twice
abbrev pub invariant-loop-field : goal.invariant-loop-field
invariant-loop-field l = (pairs : List Pair) → AreFoundIn l.self pairs → first_fault (duplicate_conditions pairs) ≡ first_fault (duplicates_from pairs l.field-index)
