use Rattle.std.proofs.Common.{◌-◌, ◌≤◌, [], length}
use Rattle.lti_outside.specs.Traffic.{Moves, no_fault}
use Rattle.lti_settings.specs.SettingsRead.{most_settings}
use Rattle.lti_settings.proofs.settings_source.take_all.Given as goal

-- what is held is all that was taken
abbrev pub invariant-turns : goal.invariant-turns
invariant-turns g l = record {
  taken : Moves (g.S.Outside.traffic l.fn.source) (g.S.Outside.traffic l.source) l.held.items [] no_fault;
  few : length l.held.items ≤ most_settings;
}

abbrev pub decreases-turns : goal.decreases-turns
decreases-turns g l = most_settings - length l.held.items
