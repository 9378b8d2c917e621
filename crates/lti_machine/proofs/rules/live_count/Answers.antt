use Rattle.std.proofs.Common.{sym, ◌∙◌}
use Rattle.lti_machine.proofs.LiveLemmas.{length-live-count_by}
use Rattle.lti_machine.proofs.rules.live_count.Goals as goal

pub returns : goal.returns
returns c = c.live_entries.ensures.count ∙ sym (length-live-count_by _ _ _ c.requires.alone)
