use Rattle.std.proofs.Common.{ap, ◌∙◌}
use Rattle.lti_machine.specs.Used.{used_cmp, in_order}
use Rattle.nonce_window.proofs.window.NonceWindow.live.Goals as goal

pub returns : goal.returns
returns c = c.in_ok-ordered.ensures ∙ ap (in_order used_cmp) c.in_ok-list.ensures
