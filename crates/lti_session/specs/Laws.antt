-- Laws over whole connections (this project's own).
use Rattle.std.specs.Prelude.{◌≡◌, ℕ, List, ◌++◌, map, Option, true, ⊤}
use Rattle.lti_outside.specs.Traffic.{Traffic, Fault, IsLeft}
use Rattle.lti_outside.specs.Limits.{IsSound}
use Rattle.lti_outside.specs.declared.limits.Limits.{Limits}
use Rattle.lti_outside.specs.declared.pairs.Pair.{Pair}
use Rattle.oauth_text.specs.declared.url.Scheme.{Scheme}
use Rattle.lti_machine.specs.Belongs.{belongs}
use Rattle.lti_machine.specs.History.{Member}
use Rattle.lti_machine.specs.declared.call.Call.{Call}
use Rattle.lti_machine.specs.declared.reply.Reply.{Reply}
use Rattle.lti_session.specs.declared.session_end.SessionEnd.{SessionEnd}
use Rattle.lti_session.specs.declared.session_end.SessionEnd.TheVariants.{Ended, LimitReached, CutShort, ReadFault, WriteFault, Refused, NoMemory}
use Rattle.lti_session.specs.State.{SessionState}
use Rattle.lti_session.specs.Exchange.{Service, Progress}
use Rattle.lti_session.specs.Talk.{Transcript, Waits, HasAnswer}

-- no fault of the link and no want of memory ended the connection
abbrev pub IsUndisturbed : SessionEnd → Type 0
IsUndisturbed Ended = ⊤
IsUndisturbed LimitReached = ⊤
IsUndisturbed CutShort = ⊤
IsUndisturbed (Refused fault) = ⊤
IsUndisturbed ReadFault = ⊥
IsUndisturbed WriteFault = ⊥
IsUndisturbed NoMemory = ⊥

abbrev pub replies_of : List Member → List Reply
replies_of told = map (λ m. m.1) told

-- Two connections that give the same bytes, in whatever pieces, with the same replies, are answered by the same bytes and
-- end alike, whatever their callers and clocks. What a connection left in its link counts as given.
abbrev pub CutsDoNotMatter : Type 0
CutsDoNotMatter =
    (limits : Limits) (keys : List Pair) (scheme : Scheme) (caller caller' : ℕ) (clock clock' : Option ℕ) (after after' : Traffic)
    (left left' read written read' written' : List ℕ) (told told' : List Member) (fault fault' : Fault) (end end' : SessionEnd)
    → IsSound limits
    → IsLeft after left → IsLeft after' left' → read ++ left ≡ read' ++ left'
    → replies_of told ≡ replies_of told' → IsUndisturbed end → IsUndisturbed end'
    → Transcript record { limits = limits; caller = caller; keys = keys; scheme = scheme; clock = clock } after read written told fault end
    → Transcript record { limits = limits; caller = caller'; keys = keys; scheme = scheme; clock = clock' } after' read' written' told' fault' end'
    → (written ≡ written') × (end ≡ end')

-- Each reply that belongs to the call that a session waits for has an answer.
abbrev pub WhatBelongsIsAnswered : Type 0
WhatBelongsIsAnswered =
    (service : Service) (to : Progress) (rest : List ℕ) (new : SessionState) (call : Call)
    → Waits service to rest new call
    → (reply : Reply) → belongs call.action reply ≡ true → HasAnswer new.pending reply
