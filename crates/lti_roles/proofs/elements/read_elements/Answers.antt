use Rattle.std.proofs.Common.{rules, subst}
use Rattle.lti_roles.specs.Roles.{roles_of}
use Rattle.lti_roles.proofs.ElementLemmas.{IsCut, cut_is, roles_step, roles_last}
use Rattle.lti_roles.proofs.elements.read_elements.Goals as goal

pub pieces-preserved : goal.pieces-preserved
pieces-preserved c =
    let cut = subst (IsCut c.pieces.rest.now) c.in-Some.is (cut_is c.pieces.rest.now c.split_once.result c.split_once.ensures.cases) in
    let step = roles_step c.pieces.roles.items (roles_of c.args.text.now) c.pieces.rest.now c.in-Some.piece.now c.in-Some.more.now cut c.pieces.invariant.1 in
    (search rules, rw c.in_ok-push_element.ensures step)

pub returns : goal.returns
returns c =
    let cut = subst (IsCut c.pieces.rest.now) c.in_default.is (cut_is c.pieces.rest.now c.split_once.result c.split_once.ensures.cases) in
    rw c.in_ok-push_element-2.ensures (roles_last c.pieces.roles.items (roles_of c.args.text.now) c.pieces.rest.now cut c.pieces.invariant.1)
