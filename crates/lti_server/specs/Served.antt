-- What a run of `answer` did as its own (this project's own).
use Rattle.std.specs.Prelude.{◌≡◌, ℕ, Option, None, Some}
use Rattle.lti_outside.specs.declared.disk.Disk.{Ghosts}
use Rattle.lti_outside.specs.declared.limits.Limits.{Limits}
use Rattle.lti_desk.specs.Answering.{Answers}
use Rattle.lti_desk.specs.Office.{OfficeValue}
use Rattle.lti_desk.specs.Serving.{Serves}
use Rattle.lti_words.specs.declared.status.Status.{Status}
use Rattle.lti_words.specs.declared.status.Status.TheVariants as ends
use Rattle.lti_settings.specs.declared.settings.Settings.{Settings}
use Rattle.lti_operator.specs.Ladder.{Passage}
use Rattle.lti_session.specs.Exchange.{Service}
use Rattle.lti_session.specs.Transcript.{IsServed}
use Rattle.lti_session.specs.declared.session_end.SessionEnd.{SessionEnd}
use Rattle.lti_session.specs.declared.session_end.SessionEnd.TheVariants as end

-- how a run ends whose connection ended so
abbrev pub end_status : SessionEnd → Status
end_status end.Ended = ends.Done
end_status end.LimitReached = ends.Done
end_status end.ReadFault = ends.ReadFault
end_status end.WriteFault = ends.WriteFault
end_status end.NoMemory = ends.NoMemory
end_status end.CutShort = ends.CutShort
end_status (end.Refused fault) = ends.Refused

-- what a run serves its one connection under
abbrev pub service_of : Limits → Option ℕ → Settings → Service
service_of limits clock settings = record { limits = limits; caller = 0; keys = settings.keys; scheme = settings.scheme; clock = clock }

-- The link was served as one connection by the settings, over the office that was mounted: what it was asked, one call behind
-- another, is its history since.
pub record ServesLink {D : Type 0} (g : Ghosts D) (limits : Limits) (clock : Option ℕ) (settings : Settings) (p : Passage D) (office : OfficeValue D) (status : Status) : Type 0 where
  pub to : OfficeValue D
  pub end : SessionEnd
  pub served : IsServed (λ old call given new. Answers g old call given new) (service_of limits clock settings) p.before.link p.after.link office to end
  pub history : Serves g office served.told to
  pub disk : p.after.disk ≡ to.disk
  pub status_is : status ≡ end_status end

abbrev pub OwnAnswer : {D : Type 0} → Ghosts D → Limits → Option ℕ → Passage D → Option Settings → OfficeValue D → Status → Type 0
OwnAnswer g limits clock p None office status = ⊥
OwnAnswer g limits clock p (Some settings) office status = ServesLink g limits clock settings p office status
