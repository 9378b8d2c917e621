use Rattle.std.proofs.Common.{[], inl, refl}
use Rattle.lti_outside.specs.Traffic.{no_fault}
use Rattle.lti_outside.proofs.TrafficLemmas.{Moves-same}
use Rattle.lti_session.proofs.wire_faults.refuse.Goals as goal

pub returns-in_default : goal.returns-in_default
returns-in_default g c = ([], no_fault, Moves-same _, inl (c.in_default.ensures, refl, refl, c.end_of.ensures))
