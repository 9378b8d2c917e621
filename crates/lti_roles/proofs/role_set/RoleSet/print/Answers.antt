use Rattle.std.proofs.Common.{rules, ◌++◌, ap, ◌∙◌, arith}
use Rattle.std.specs.String.{string_bytes}
use Rattle.lti_roles.proofs.PrintedLemmas.{printed_step}
use Rattle.lti_roles.proofs.role_set.RoleSet.print.Goals as goal

pub loop-role-preserved : goal.loop-role-preserved
loop-role-preserved c =
    let so_far = c.loop-role.invariant in
    let grown = c.in_ok-push_str-2.ensures.bytes
    ∙ ap (λ bytes. bytes ++ c.spelled.result.now) c.in_ok-push_str.ensures.bytes
    ∙ ap (λ bytes. (string_bytes c.loop-role.text ++ c.loop-role.separator.now) ++ bytes) c.spelled.ensures in
    let more = printed_step c.deref-role-items.result.now c.loop-role.role-index c.role-item.result (string_bytes c.loop-role.text) c.loop-role.separator.now
    (string_bytes c.push_str-in-loop-role.new.self) (omega arith) c.role-item.is so_far.1 so_far.2 grown in
    (search rules, more.0, more.1)
