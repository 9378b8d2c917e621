use Rattle.lti_roles.proofs.BackLemmas.{printed_is_read}
use Rattle.lti_roles.proofs.role_set.RoleSet.read.Goals as goal

pub invariant_of-result : goal.invariant_of-result
invariant_of-result c = rw c.in_ok-read_elements.ensures (printed_is_read c.args.text.now)
