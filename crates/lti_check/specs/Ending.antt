-- What a run of `check` did, by how it ended (this project's own).
use Rattle.std.specs.Prelude.{◌≡◌, Result}
use Rattle.lti_outside.specs.Traffic.{Traffic}
use Rattle.lti_outside.specs.declared.limits.Limits.{Limits}
use Rattle.lti_words.specs.Command.{CheckCommand}
use Rattle.lti_check.specs.Stops.{status_of}
use Rattle.lti_words.specs.declared.status.Status.{Status}
use Rattle.lti_check.specs.Verdicts.{Checks}
use Rattle.lti_check.specs.declared.stop.Stop.{Stop}

-- the command ended in a way that ends the run so
pub record EndsWith (command : CheckCommand) (limits : Limits) (before after : Traffic) (status : Status) : Type 0 where
  pub end : Result Unit Stop
  pub status_is : status ≡ status_of end
  pub checks : Checks command limits before after end
