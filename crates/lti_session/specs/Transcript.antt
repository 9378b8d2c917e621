-- What a whole connection did: what passed over the link, what the machine was asked, and how it ended.
use Rattle.std.specs.Prelude.{ℕ, List}
use Rattle.lti_outside.specs.Traffic.{Traffic, Fault, Moves}
use Rattle.lti_machine.specs.History.{Member, Leads}
use Rattle.lti_machine.specs.declared.call.Call.{Call}
use Rattle.lti_machine.specs.declared.reply.Reply.{Reply}
use Rattle.lti_session.specs.Exchange.{Service}
use Rattle.lti_session.specs.Talk.{Transcript}
use Rattle.lti_session.specs.declared.session_end.SessionEnd.{SessionEnd}

-- Whatever the machine is, each call of the connection was one step of it.
pub record IsServed {S : Type 0} (step : S → Call → Reply → S → Type 0) (service : Service) (before after : Traffic) (from to : S) (end : SessionEnd) : Type 0 where
  pub read : List ℕ
  pub written : List ℕ
  pub told : List Member
  pub fault : Fault
  pub moves : Moves before after read written fault
  pub answered : Leads step from told to
  pub transcript : Transcript service after read written told fault end
