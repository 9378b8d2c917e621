use Rattle.std.proofs.Common.{◌∙◌, sym, ap}
use Rattle.lti_server.specs.Doing.{is_early}
use Rattle.lti_server.proofs.RanLemmas as ran
use Rattle.lti_server.proofs.top.run.Goals as goal

pub returns-clause-usage : goal.returns-clause-usage
returns-clause-usage g c = λ is. ran.tells_usage _ _ _ _ _ _ c.perform-status.ensures.ran (sym c.number.ensures ∙ is)

pub returns-clause-no_command : goal.returns-clause-no_command
returns-clause-no_command g c = λ none. rw c.number.ensures (ran.usage_status _ _ _ _ _ _ c.perform-status.ensures.ran none).0

pub returns-clause-untouched : goal.returns-clause-untouched
returns-clause-untouched g c = λ none. (ran.usage_status _ _ _ _ _ _ c.perform-status.ensures.ran none).1

pub returns-clause-settings : goal.returns-clause-settings
returns-clause-settings g c = ran.settings_stay _ _ _ _ _ _ c.perform-status.ensures.ran

pub returns-clause-journal : goal.returns-clause-journal
returns-clause-journal g c = ran.disk_stays _ _ _ _ _ _ c.perform-status.ensures.ran

pub returns-clause-early : goal.returns-clause-early
returns-clause-early g c = λ is. ran.early_stays _ _ _ _ _ _ c.perform-status.ensures.ran (ap is_early (sym c.number.ensures) ∙ is)

pub returns-clause-disk_fault : goal.returns-clause-disk_fault
returns-clause-disk_fault g c = λ is. ran.disk_rose _ _ _ _ _ _ c.perform-status.ensures.ran (sym c.number.ensures ∙ is)

pub returns-clause-damaged : goal.returns-clause-damaged
returns-clause-damaged g c = λ tells is. ran.is_damaged _ _ _ _ _ _ c.perform-status.ensures.ran tells (sym c.number.ensures ∙ is)

pub returns-clause-too_small : goal.returns-clause-too_small
returns-clause-too_small g c = λ is. ran.is_small _ _ _ _ _ _ c.perform-status.ensures.ran (sym c.number.ensures ∙ is)

pub returns-clause-lasts : goal.returns-clause-lasts
returns-clause-lasts g c = ran.ran_lasts _ _ _ _ g.met.D.Disk.only_now c.a_run_serves.ensures _ _ c.perform-status.ensures.ran

pub returns-clause-known : goal.returns-clause-known
returns-clause-known g c = (c.perform-status.result.0, c.number.ensures)

pub returns-clause-read : goal.returns-clause-read
returns-clause-read g c = λ is. ran.read_rose _ _ _ _ _ _ c.perform-status.ensures.ran (sym c.number.ensures ∙ is)

pub returns-clause-write : goal.returns-clause-write
returns-clause-write g c = λ is. ran.write_rose _ _ _ _ _ _ c.perform-status.ensures.ran (sym c.number.ensures ∙ is)

pub returns-clause-done : goal.returns-clause-done
returns-clause-done g c = λ command asked. (c.perform-status.result.0, c.number.ensures, ran.done _ _ _ _ _ _ c.perform-status.ensures.ran command asked)
