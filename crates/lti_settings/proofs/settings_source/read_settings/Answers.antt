use Rattle.std.proofs.Common.{inr, ap, Err}
use Rattle.lti_settings.proofs.settings_source.read_settings.Goals as goal

pub returns-in-Err-NoReading : goal.returns-in-Err-NoReading
returns-in-Err-NoReading g c =
    inr (
      c.take_all.new.held.items,
      c.in_ok-take_all.ensures.0,
      c.in_ok-take_all.ensures.1,
      λ parts is. c.in-Err-NoReading.ensures.bad (ap Err c.in-Err-NoReading.field-0-is) parts (rw c.deref.ensures.value is),
    )
