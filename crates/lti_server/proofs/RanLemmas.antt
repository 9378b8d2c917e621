-- What a run's status tells of its words and of the faults that it met, and what it made of the disk.
use Rattle.std.proofs.Common.{◌≡◌, ◌⊎◌, ◌<◌, ◌*◌, ℕ, true, false, true≢false, inl, inr, List, [], ◌∷◌, length, Option, None, Some, Result, Ok, Err, refl, sym, ap, ◌∙◌, subst, arith}
use Rattle.lti_outside.specs.Faults.{Rose}
use Rattle.lti_outside.specs.Traffic.{Traffic, Fault, Moves}
use Rattle.lti_outside.specs.DiskMoments.{LeavesOnly}
use Rattle.lti_outside.specs.declared.disk.Disk.{Ghosts}
use Rattle.lti_outside.specs.declared.limits.Limits.{Limits}
use Rattle.lti_outside.proofs.DiskMomentLemmas.{OnlyNow, LeavesOnly-start}
use Rattle.gate_journal.specs.Half.{IsDamagedAt}
use Rattle.gate_journal.specs.declared.mount_fault.MountFault.{MountFault}
use Rattle.gate_journal.specs.declared.mount_fault.MountFault.TheVariants as mount
use Rattle.http_wire.specs.declared.fault.WireFault.TheVariants as wire
use Rattle.pox_outcomes.specs.declared.answer.Answer.{Answer}
use Rattle.pox_outcomes.specs.declared.answer.Major.{Major}
use Rattle.pox_outcomes.specs.declared.answer.Major.TheVariants as major
use Rattle.lti_machine.specs.History.{Member, Leads}
use Rattle.lti_machine.specs.declared.entry.Entry.{Entry}
use Rattle.lti_machine.specs.Rows.{rows_of}
use Rattle.lti_machine.specs.declared.reply.Reply.{Reply}
use Rattle.lti_machine.specs.declared.reply.Reply.TheVariants as reply
use Rattle.lti_desk.specs.Answering.{Answers}
use Rattle.lti_desk.specs.Lawful.{IsKeeping}
use Rattle.lti_desk.specs.Mounting.{IsMounted, IsUnmounted, IsUnreadAt}
use Rattle.lti_desk.specs.Office.{OfficeValue}
use Rattle.lti_desk.specs.Serving.{Serves}
use Rattle.lti_provider.specs.Passback.{IsPassedBack}
use Rattle.lti_provider.specs.declared.passback_fault.PassbackFault.{PassbackFault}
use Rattle.lti_provider.specs.declared.passback_fault.PassbackFault.TheVariants as fault
use Rattle.lti_words.specs.Command.{CommandValue, CheckCommand, LaunchCommand, PassbackCommand, IssueCommand, IsCommand, IsUsage, UsesNoSettings, UsesNoJournal, uses_settings, uses_journal}
use Rattle.lti_words.specs.Command.CommandValue.{check, answer, issue, launch, passback, grades}
use Rattle.lti_words.specs.Status.{number_of}
use Rattle.lti_words.specs.declared.status.Status.{Status}
use Rattle.lti_words.specs.declared.status.Status.TheVariants as ends
use Rattle.lti_words.proofs.WordLemmas.{words_ask_once}
use Rattle.lti_settings.specs.SettingsRead.{ReadsSettings, status_of}
use Rattle.lti_settings.specs.declared.settings.Settings.{Settings}
use Rattle.lti_settings.specs.declared.settings_source.NoSettings.{NoSettings}
use Rattle.lti_settings.specs.declared.settings_source.NoSettings.TheVariants as none
use Rattle.lti_check.specs.Ending.{EndsWith}
use Rattle.lti_check.specs.Stops as stops
use Rattle.lti_check.specs.Verdicts.{Checks}
use Rattle.lti_check.specs.declared.stop.Stop.{Stop}
use Rattle.lti_check.specs.declared.stop.Stop.TheVariants as stop
use Rattle.lti_operator.specs.Issuing.{IsIssued, issue_call, issued_by}
use Rattle.lti_operator.specs.Ladder.{Passage, Reads, IsUntouched, IsStill, Ladder, mount_status}
use Rattle.lti_operator.specs.Ladder.Ladder.{no_memory as out_of_memory, no_settings, no_journal, no_key, own}
use Rattle.lti_operator.specs.Launching.{IsLaunched}
use Rattle.lti_operator.specs.Passing.{EndsFirst, IsPassed, came_to, by_major}
use Rattle.lti_operator.specs.Passing.EndsFirst.{nowhere, no_memory as first_no_memory}
use Rattle.lti_operator.specs.Own.{report_status}
use Rattle.lti_operator.specs.Report.{IsReported}
use Rattle.lti_operator.specs.declared.reports.ReportFault.{ReportFault}
use Rattle.lti_operator.specs.declared.reports.ReportFault.TheVariants as report
use Rattle.lti_server.specs.Doing.{Own, Checked, Does, Ran, Survives, is_early}
use Rattle.lti_server.specs.Doing.Ran.{no_memory, usage, does}
use Rattle.lti_server.specs.Doing.Survives.{unmounted as leaves_all, mounted as leaves_history}
use Rattle.lti_server.specs.Served.{end_status, service_of}
use Rattle.lti_session.specs.Transcript.{IsServed}
use Rattle.lti_session.specs.declared.session_end.SessionEnd.{SessionEnd}
use Rattle.lti_session.specs.declared.session_end.SessionEnd.TheVariants as end

-- ---- which end a number tells

of_2 : (s : Status) → number_of s ≡ 2 → s ≡ ends.Usage
of_2 ends.Usage h = refl
of_2 s h = absurd (omega (arith, h))

of_4 : (s : Status) → number_of s ≡ 4 → s ≡ ends.ReadFault
of_4 ends.ReadFault h = refl
of_4 s h = absurd (omega (arith, h))

of_5 : (s : Status) → number_of s ≡ 5 → s ≡ ends.WriteFault
of_5 ends.WriteFault h = refl
of_5 s h = absurd (omega (arith, h))

of_6 : (s : Status) → number_of s ≡ 6 → s ≡ ends.DiskFault
of_6 ends.DiskFault h = refl
of_6 s h = absurd (omega (arith, h))

of_7 : (s : Status) → number_of s ≡ 7 → s ≡ ends.DamagedJournal
of_7 ends.DamagedJournal h = refl
of_7 s h = absurd (omega (arith, h))

of_13 : (s : Status) → number_of s ≡ 13 → s ≡ ends.JournalTooSmall
of_13 ends.JournalTooSmall h = refl
of_13 s h = absurd (omega (arith, h))

-- ends of different numbers differ
differ : {A : Type 0} (a b : Status) → a ≡ b → (number_of a ≡ number_of b → ⊥) → A
differ a b same other = absurd (other (ap number_of same))

-- ---- which end of a part ended the run

stop_4 : (e : Result Unit Stop) → ends.ReadFault ≡ stops.status_of e → e ≡ Err stop.ReadFault
stop_4 (Err stop.ReadFault) h = refl
stop_4 e h = absurd (let n = ap number_of h in omega (arith, n))

stop_5 : (e : Result Unit Stop) → ends.WriteFault ≡ stops.status_of e → e ≡ Err stop.WriteFault
stop_5 (Err stop.WriteFault) h = refl
stop_5 e h = absurd (let n = ap number_of h in omega (arith, n))

report_4 : (e : Result Unit ReportFault) → ends.ReadFault ≡ report_status e → ⊥
report_4 (Err report.WriteFault) h = let n = ap number_of h in omega (arith, n)
report_4 e h = let n = ap number_of h in omega (arith, n)

report_5 : (e : Result Unit ReportFault) → ends.WriteFault ≡ report_status e → e ≡ Err report.WriteFault
report_5 (Err report.WriteFault) h = refl
report_5 e h = absurd (let n = ap number_of h in omega (arith, n))

end_4 : (e : SessionEnd) → ends.ReadFault ≡ end_status e → e ≡ end.ReadFault
end_4 end.ReadFault h = refl
end_4 e h = absurd (let n = ap number_of h in omega (arith, n))

end_5 : (e : SessionEnd) → ends.WriteFault ≡ end_status e → e ≡ end.WriteFault
end_5 end.WriteFault h = refl
end_5 e h = absurd (let n = ap number_of h in omega (arith, n))

cause_4 : (e : NoSettings) → ends.ReadFault ≡ status_of e → e ≡ none.ReadFault
cause_4 none.ReadFault h = refl
cause_4 e h = absurd (let n = ap number_of h in omega (arith, n))

cause_5 : (e : NoSettings) → ends.WriteFault ≡ status_of e → ⊥
cause_5 none.ReadFault h = let n = ap number_of h in omega (arith, n)
cause_5 e h = let n = ap number_of h in omega (arith, n)

mount_4 : (e : MountFault) → ends.ReadFault ≡ mount_status e → ⊥
mount_4 mount.DiskFault h = let n = ap number_of h in omega (arith, n)
mount_4 e h = let n = ap number_of h in omega (arith, n)

mount_5 : (e : MountFault) → ends.WriteFault ≡ mount_status e → ⊥
mount_5 mount.DiskFault h = let n = ap number_of h in omega (arith, n)
mount_5 e h = let n = ap number_of h in omega (arith, n)

came_4 : (came : Result Answer PassbackFault) → ends.ReadFault ≡ came_to came → came ≡ Err (fault.Wire wire.ReadFault)
came_4 (Ok told) h = absurd (major_4 told.major h)
  where
    major_4 : (m : Major) → ends.ReadFault ≡ by_major m → ⊥
    major_4 major.Success h = let n = ap number_of h in omega (arith, n)
    major_4 m h = let n = ap number_of h in omega (arith, n)
came_4 (Err (fault.Wire wire.ReadFault)) h = refl
came_4 (Err e) h = absurd (let n = ap number_of h in omega (arith, n))

came_5 : (came : Result Answer PassbackFault) → ends.WriteFault ≡ came_to came → came ≡ Err fault.WriteFault
came_5 (Ok told) h = absurd (major_5 told.major h)
  where
    major_5 : (m : Major) → ends.WriteFault ≡ by_major m → ⊥
    major_5 major.Success h = let n = ap number_of h in omega (arith, n)
    major_5 m h = let n = ap number_of h in omega (arith, n)
came_5 (Err fault.WriteFault) h = refl
came_5 (Err (fault.Wire wire.CutShort)) h = absurd (let n = ap number_of h in omega (arith, n))
came_5 (Err e) h = absurd (let n = ap number_of h in omega (arith, n))

issued_4 : (r : Reply) → ends.ReadFault ≡ issued_by r → ⊥
issued_4 reply.Issued h = let n = ap number_of h in omega (arith, n)
issued_4 r h = let n = ap number_of h in omega (arith, n)

issued_5 : (r : Reply) → ends.WriteFault ≡ issued_by r → ⊥
issued_5 reply.Issued h = let n = ap number_of h in omega (arith, n)
issued_5 r h = let n = ap number_of h in omega (arith, n)

-- ---- the ends that come late

abbrev IsLate : Status → Type 0
IsLate status = is_early (number_of status) ≡ false

late_stop : (e : Result Unit Stop) → IsLate (stops.status_of e)
late_stop (Ok u) = refl
late_stop (Err stop.ReadFault) = refl
late_stop (Err e) = refl

late_report : (e : Result Unit ReportFault) → IsLate (report_status e)
late_report (Ok u) = refl
late_report (Err report.WriteFault) = refl
late_report (Err e) = refl

late_end : (e : SessionEnd) → IsLate (end_status e)
late_end end.Ended = refl
late_end e = refl

late_major : (m : Major) → IsLate (by_major m)
late_major major.Success = refl
late_major m = refl

late_came : (came : Result Answer PassbackFault) → IsLate (came_to came)
late_came (Ok told) = late_major told.major
late_came (Err fault.NotXml) = refl
late_came (Err (fault.Wire wire.CutShort)) = refl
late_came (Err (fault.Wire wire.ReadFault)) = refl
late_came (Err e) = refl

-- an issue ends late, or by a fault of the disk
late_issued : (r : Reply) → IsLate (issued_by r) ⊎ ((faults : ℕ) × (r ≡ reply.DiskFault faults))
late_issued (reply.DiskFault faults) = inr (faults, refl)
late_issued reply.Issued = inl refl
late_issued r = inl refl

module _ (asked : LaunchCommand) (secret : List ℕ) (entries : List Entry) (clock : Option ℕ) (random random' : Option (List ℕ)) (before after : Traffic) where
  late_launched : (status : Status) → IsLaunched asked secret entries clock random random' before after status → IsLate status
  late_launched ends.Done l = refl
  late_launched ends.WriteFault l = refl
  late_launched ends.NotIssued l = refl
  late_launched ends.NoMemory l = refl
  late_launched status l = absurd l

module _ (asked : PassbackCommand) (secret : List ℕ) (entries : List Entry) (clock : Option ℕ) (random random' : Option (List ℕ)) (limits : Limits) (before after : Traffic) where
  late_first : (status : Status) → EndsFirst asked entries status → IsLate status
  late_first status (nowhere placeless is) = subst IsLate (sym is) refl
  late_first status (first_no_memory is) = subst IsLate (sym is) refl

  late_passed : (status : Status) → IsPassed asked secret entries clock random random' limits before after status → IsLate status
  late_passed status (inl f) = late_first status f.1
  late_passed status (inr s) = subst IsLate (sym s.status_is) (late_came s.came)

  first_4 : EndsFirst asked entries ends.ReadFault → ⊥
  first_4 (nowhere placeless is) = let n = ap number_of is in omega (arith, n)
  first_4 (first_no_memory is) = let n = ap number_of is in omega (arith, n)

  first_5 : EndsFirst asked entries ends.WriteFault → ⊥
  first_5 (nowhere placeless is) = let n = ap number_of is in omega (arith, n)
  first_5 (first_no_memory is) = let n = ap number_of is in omega (arith, n)

  passed_4 : IsPassed asked secret entries clock random random' limits before after ends.ReadFault → Rose before.read_faults after.read_faults
  passed_4 (inl f) = absurd (first_4 f.1)
  passed_4 (inr s) =
      let d = subst (λ (r : Result Answer PassbackFault). IsPassedBack s.sending limits before after r) (came_4 s.came s.status_is) s.passed in
      d.2.1.faults.0

  passed_5 : IsPassed asked secret entries clock random random' limits before after ends.WriteFault → Rose before.write_faults after.write_faults
  passed_5 (inl f) = absurd (first_5 f.1)
  passed_5 (inr s) =
      let d = subst (λ (r : Result Answer PassbackFault). IsPassedBack s.sending limits before after r) (came_5 s.came s.status_is) s.passed in
      d.2.moves.faults.1

module _ {D : Type 0} (g : Ghosts D) (limits : Limits) (clock : Option ℕ) (p : Passage D) where
  abbrev RoseRead : Type 0
  RoseRead = Rose p.before.source.read_faults p.after.source.read_faults ⊎ Rose p.before.link.read_faults p.after.link.read_faults

  abbrev RoseWrite : Type 0
  RoseWrite = Rose p.before.link.write_faults p.after.link.write_faults

  abbrev RoseDisk : Type 0
  RoseDisk = Rose (g.faults p.before.disk) (g.faults p.after.disk)

  issued_apart_4 : (asked : IssueCommand) (from to : OfficeValue D) → IsIssued g asked clock from to ends.ReadFault → ⊥
  issued_apart_4 asked from to (inl none) = let n = ap number_of none.1 in omega (arith, n)
  issued_apart_4 asked from to (inr i) = issued_4 i.given i.status_is

  issued_apart_5 : (asked : IssueCommand) (from to : OfficeValue D) → IsIssued g asked clock from to ends.WriteFault → ⊥
  issued_apart_5 asked from to (inl none) = let n = ap number_of none.1 in omega (arith, n)
  issued_apart_5 asked from to (inr i) = issued_5 i.given i.status_is

  -- ---- what a command does as its own

  checked_4 : (asked : CheckCommand) → EndsWith asked limits p.before.link p.after.link ends.ReadFault → Rose p.before.link.read_faults p.after.link.read_faults
  checked_4 asked e =
      let c = subst (λ (r : Result Unit Stop). Checks asked limits p.before.link p.after.link r) (stop_4 e.end e.status_is) e.checks in
      c.moves.faults.0

  checked_5 : (asked : CheckCommand) → EndsWith asked limits p.before.link p.after.link ends.WriteFault → RoseWrite
  checked_5 asked e =
      let c = subst (λ (r : Result Unit Stop). Checks asked limits p.before.link p.after.link r) (stop_5 e.end e.status_is) e.checks in
      c.moves.faults.1

  own_4 : (command : CommandValue) (read : Option Settings) (secret : List ℕ) (office : OfficeValue D) → Own g limits clock command p read secret office ends.ReadFault
      → Rose p.before.link.read_faults p.after.link.read_faults
  own_4 (check asked) read secret office o = absurd o
  own_4 answer (Some settings) secret office s =
      let t = subst (λ (e : SessionEnd). IsServed (λ old call given new. Answers g old call given new) (service_of limits clock settings) p.before.link p.after.link office s.to e) (end_4 s.end s.status_is) s.served in
      let m = subst (λ (f : Fault). Moves p.before.link p.after.link t.read t.written f) t.transcript.end_is.0 t.moves in
      m.faults.0
  own_4 answer None secret office s = absurd s
  own_4 (issue asked) read secret office d = absurd (issued_apart_4 asked office d.1 d.2)
  own_4 (launch asked) read secret office d = absurd d.1.holds
  own_4 (passback asked) read secret office d = passed_4 asked secret d.1.began clock p.before.random p.after.random limits p.before.link p.after.link d.1.holds
  own_4 (grades asked) read secret office d = absurd (report_4 d.1 d.3)

  own_5 : (command : CommandValue) (read : Option Settings) (secret : List ℕ) (office : OfficeValue D) → Own g limits clock command p read secret office ends.WriteFault → RoseWrite
  own_5 (check asked) read secret office o = absurd o
  own_5 answer (Some settings) secret office s =
      let t = subst (λ (e : SessionEnd). IsServed (λ old call given new. Answers g old call given new) (service_of limits clock settings) p.before.link p.after.link office s.to e) (end_5 s.end s.status_is) s.served in
      let m = subst (λ (f : Fault). Moves p.before.link p.after.link t.read t.written f) t.transcript.end_is.0 t.moves in
      m.faults.1
  own_5 answer None secret office s = absurd s
  own_5 (issue asked) read secret office d = absurd (issued_apart_5 asked office d.1 d.2)
  own_5 (launch asked) read secret office d = d.1.holds.3.moves.faults.1
  own_5 (passback asked) read secret office d = passed_5 asked secret d.1.began clock p.before.random p.after.random limits p.before.link p.after.link d.1.holds
  own_5 (grades asked) read secret office d =
      let r = subst (λ (e : Result Unit ReportFault). IsReported asked.most (rows_of d.2.began) p.before.link p.after.link e) (report_5 d.1 d.3) d.2.holds in
      r.2.moves.faults.1

  -- ---- by which rung a run ended

  data Came (status : Status) : Type 0 where
    by_memory : IsUntouched p → status ≡ ends.NoMemory → Came status
    by_settings : (cause : NoSettings) → IsUntouched p → status ≡ status_of cause → Came status
    by_journal : (cause : MountFault) → IsUnmounted g limits p.before.disk record { fault = cause; disk = p.after.disk } → IsUntouched p → status ≡ mount_status cause → Came status
    by_key : IsUntouched p → status ≡ ends.UnknownKey → Came status
    by_disk : RoseDisk → IsUntouched p → status ≡ ends.DiskFault → Came status
    by_late : IsLate status → Came status

  issue_came : (asked : IssueCommand) (office to : OfficeValue D) (status : Status) → IsMounted g limits p.before.disk office → IsUntouched p → p.after.disk ≡ to.disk
      → IsIssued g asked clock office to status → Came status
  issue_came asked office to status mounted still same (inl none) = by_memory still none.1
  issue_came asked office to status mounted still same (inr i) = elim (late_issued i.given) [
    | inl l ↦ by_late (subst IsLate (sym i.status_is) l)
    | inr f ↦
        let failed = (i.answered.leaves.holds.failed f.0 f.1).1 in
        let rose : RoseDisk = subst (λ (d : D). Rose (g.faults p.before.disk) (g.faults d)) (sym same) (subst (λ (n : ℕ). Rose n (g.faults to.disk)) mounted.faults failed) in
        by_disk rose still (i.status_is ∙ ap issued_by f.1)
  ]

  own_came : (command : CommandValue) (read : Option Settings) (secret : List ℕ) (office : OfficeValue D) (status : Status) → IsMounted g limits p.before.disk office
      → Own g limits clock command p read secret office status → Came status
  own_came (check asked) read secret office status mounted o = absurd o
  own_came answer (Some settings) secret office status mounted s = by_late (subst IsLate (sym s.status_is) (late_end s.end))
  own_came answer None secret office status mounted s = absurd s
  own_came (issue asked) read secret office status mounted d = issue_came asked office d.1 status mounted d.0 d.3 d.2
  own_came (launch asked) read secret office status mounted d =
      by_late (late_launched asked secret d.1.began clock p.before.random p.after.random p.before.link p.after.link status d.1.holds)
  own_came (passback asked) read secret office status mounted d =
      by_late (late_passed asked secret d.1.began clock p.before.random p.after.random limits p.before.link p.after.link status d.1.holds)
  own_came (grades asked) read secret office status mounted d = by_late (subst IsLate (sym d.3) (late_report d.1))

  -- ---- rung by rung

  data Did (command : CommandValue) (status : Status) : Type 0 where
    checked : (asked : CheckCommand) → command ≡ check asked → Checked limits asked p status → Did command status
    climbed : Ladder g limits command p (Own g limits clock command) status → Did command status

  did : (command : CommandValue) (status : Status) → Does g limits clock command p status → Did command status
  did (check asked) status d = checked asked refl d
  did answer status d = climbed d
  did (issue asked) status d = climbed d
  did (launch asked) status d = climbed d
  did (passback asked) status d = climbed d
  did (grades asked) status d = climbed d

  judged_4 : (asked : CheckCommand) → (IsUntouched p × (ends.ReadFault ≡ ends.NoMemory)) ⊎ EndsWith asked limits p.before.link p.after.link ends.ReadFault → RoseRead
  judged_4 asked (inl m) = differ ends.ReadFault ends.NoMemory m.1 (λ n. omega (arith, n))
  judged_4 asked (inr e) = inr (checked_4 asked e)

  judged_5 : (asked : CheckCommand) → (IsUntouched p × (ends.WriteFault ≡ ends.NoMemory)) ⊎ EndsWith asked limits p.before.link p.after.link ends.WriteFault → RoseWrite
  judged_5 asked (inl m) = differ ends.WriteFault ends.NoMemory m.1 (λ n. omega (arith, n))
  judged_5 asked (inr e) = checked_5 asked e

  judged_came : (asked : CheckCommand) (status : Status) → (IsUntouched p × (status ≡ ends.NoMemory)) ⊎ EndsWith asked limits p.before.link p.after.link status → Came status
  judged_came asked status (inl m) = by_memory m.0 m.1
  judged_came asked status (inr e) = by_late (subst IsLate (sym e.status_is) (late_stop e.end))

  did_4 : (command : CommandValue) → Did command ends.ReadFault → RoseRead
  did_4 command (checked asked same c) = judged_4 asked c.judged
  did_4 command (climbed (out_of_memory still is)) = differ ends.ReadFault ends.NoMemory is (λ n. omega (arith, n))
  did_4 command (climbed (no_settings uses cause read link same is)) =
      let r = subst (λ (e : NoSettings). ReadsSettings p.before.source p.after.source (Err e)) (cause_4 cause is) read in
      inl r.1.faults.0
  did_4 command (climbed (no_journal read reads cause fails link is)) = absurd (mount_4 cause is)
  did_4 command (climbed (no_key read reads office mounted unknown link same is)) = differ ends.ReadFault ends.UnknownKey is (λ n. omega (arith, n))
  did_4 command (climbed (own read reads office mounted secret knows o)) = inr (own_4 command read secret office o)

  did_5 : (command : CommandValue) → Did command ends.WriteFault → RoseWrite
  did_5 command (checked asked same c) = judged_5 asked c.judged
  did_5 command (climbed (out_of_memory still is)) = differ ends.WriteFault ends.NoMemory is (λ n. omega (arith, n))
  did_5 command (climbed (no_settings uses cause read link same is)) = absurd (cause_5 cause is)
  did_5 command (climbed (no_journal read reads cause fails link is)) = absurd (mount_5 cause is)
  did_5 command (climbed (no_key read reads office mounted unknown link same is)) = differ ends.WriteFault ends.UnknownKey is (λ n. omega (arith, n))
  did_5 command (climbed (own read reads office mounted secret knows o)) = own_5 command read secret office o

  did_came : (command : CommandValue) (status : Status) → Did command status → Came status
  did_came command status (checked asked same c) = judged_came asked status c.judged
  did_came command status (climbed (out_of_memory still is)) = by_memory still.link is
  did_came command status (climbed (no_settings uses cause read link same is)) = by_settings cause link is
  did_came command status (climbed (no_journal read reads cause fails link is)) = by_journal cause fails link is
  did_came command status (climbed (no_key read reads office mounted unknown link same is)) = by_key link is
  did_came command status (climbed (own read reads office mounted secret knows o)) = own_came command read secret office status mounted o

  -- a command that needs no settings leaves their source
  unread : (command : CommandValue) (status : Status) → uses_settings command ≡ false → Did command status → p.after.source ≡ p.before.source
  unread command status unused (checked asked same c) = c.source
  unread command status unused (climbed (out_of_memory still is)) = still.source
  unread command status unused (climbed (no_settings uses cause read link same is)) = absurd (true≢false (sym uses ∙ unused))
  unread command status unused (climbed (no_journal read reads cause fails link is)) = (subst (λ b. Reads b p read) unused reads).0
  unread command status unused (climbed (no_key read reads office mounted unknown link same is)) = (subst (λ b. Reads b p read) unused reads).0
  unread command status unused (climbed (own read reads office mounted secret knows o)) = (subst (λ b. Reads b p read) unused reads).0

  -- a command that needs no journal leaves the disk
  unmoved : (command : CommandValue) (status : Status) → uses_journal command ≡ false → Does g limits clock command p status → p.after.disk ≡ p.before.disk
  unmoved (check asked) status unused d = d.disk
  unmoved answer status unused d = absurd (true≢false unused)
  unmoved (issue asked) status unused d = absurd (true≢false unused)
  unmoved (launch asked) status unused d = absurd (true≢false unused)
  unmoved (passback asked) status unused d = absurd (true≢false unused)
  unmoved (grades asked) status unused d = absurd (true≢false unused)

  -- ---- what was made of the disk

  module _ (only : OnlyNow g)
      (serves : (from to : OfficeValue D) (told : List Member) → Leads (λ old call given new. Answers g old call given new) from told to → IsKeeping g from → Serves g from told to) where
    abbrev Lasts : Type 0
    Lasts = Survives g limits p.before.disk p.after.disk

    unchanged : p.after.disk ≡ p.before.disk → Lasts
    unchanged same = leaves_all (subst (λ (d : D). LeavesOnly g p.before.disk d (g.may_leave p.before.disk)) (sym same)
        (LeavesOnly-start g p.before.disk (g.may_leave p.before.disk) only (λ image left. left)))

    rested : (office : OfficeValue D) → IsMounted g limits p.before.disk office → p.after.disk ≡ office.disk → Lasts
    rested office m same = leaves_history office m [] office (serves office office [] refl m.keeps) same

    issue_lasts : (asked : IssueCommand) (office to : OfficeValue D) (status : Status) → IsMounted g limits p.before.disk office → p.after.disk ≡ to.disk
        → IsIssued g asked clock office to status → Lasts
    issue_lasts asked office to status m same (inl none) = rested office m (same ∙ ap (λ (o : OfficeValue D). o.disk) none.0)
    issue_lasts asked office to status m same (inr i) =
        leaves_history office m ((issue_call asked i.moment, i.given) ∷ []) to (serves office to ((issue_call asked i.moment, i.given) ∷ []) (to, i.answered, refl) m.keeps) same

    own_lasts : (command : CommandValue) (read : Option Settings) (secret : List ℕ) (office : OfficeValue D) (status : Status) → IsMounted g limits p.before.disk office
        → Own g limits clock command p read secret office status → Lasts
    own_lasts (check asked) read secret office status m o = absurd o
    own_lasts answer (Some settings) secret office status m s = leaves_history office m s.served.told s.to s.history s.disk
    own_lasts answer None secret office status m s = absurd s
    own_lasts (issue asked) read secret office status m d = issue_lasts asked office d.1 status m d.3 d.2
    own_lasts (launch asked) read secret office status m d = rested office m d.0
    own_lasts (passback asked) read secret office status m d = rested office m d.0
    own_lasts (grades asked) read secret office status m d = rested office m d.0

    did_lasts : (command : CommandValue) (status : Status) → Did command status → Lasts
    did_lasts command status (checked asked same c) = unchanged c.disk
    did_lasts command status (climbed (out_of_memory still is)) = unchanged still.disk
    did_lasts command status (climbed (no_settings uses cause read link same is)) = unchanged same
    did_lasts command status (climbed (no_journal read reads cause fails link is)) = leaves_all fails.moments
    did_lasts command status (climbed (no_key read reads office m unknown link same is)) = rested office m same
    did_lasts command status (climbed (own read reads office m secret knows o)) = own_lasts command read secret office status m o

    pub ran_lasts : (words : List (List ℕ)) (status : Status) → Ran g words limits clock p status → Lasts
    ran_lasts words status (no_memory still is) = unchanged still.disk
    ran_lasts words status (usage never still is) = unchanged still.disk
    ran_lasts words status (does command asked d) = did_lasts command status (did command status d)

  -- ---- what was done, clause by clause

  came_2 : Came ends.Usage → ⊥
  came_2 (by_memory link is) = differ ends.Usage ends.NoMemory is (λ n. omega (arith, n))
  came_2 (by_settings cause link is) = cause_2 cause is
    where
      cause_2 : (e : NoSettings) → ends.Usage ≡ status_of e → ⊥
      cause_2 none.ReadFault h = let n = ap number_of h in omega (arith, n)
      cause_2 e h = let n = ap number_of h in omega (arith, n)
  came_2 (by_journal cause fails link is) = mount_2 cause is
    where
      mount_2 : (e : MountFault) → ends.Usage ≡ mount_status e → ⊥
      mount_2 mount.DiskFault h = let n = ap number_of h in omega (arith, n)
      mount_2 e h = let n = ap number_of h in omega (arith, n)
  came_2 (by_key link is) = differ ends.Usage ends.UnknownKey is (λ n. omega (arith, n))
  came_2 (by_disk rose link is) = differ ends.Usage ends.DiskFault is (λ n. omega (arith, n))
  came_2 (by_late l) = absurd (true≢false l)

  came_6 : Came ends.DiskFault → RoseDisk
  came_6 (by_memory link is) = differ ends.DiskFault ends.NoMemory is (λ n. omega (arith, n))
  came_6 (by_settings cause link is) = absurd (cause_6 cause is)
    where
      cause_6 : (e : NoSettings) → ends.DiskFault ≡ status_of e → ⊥
      cause_6 none.ReadFault h = let n = ap number_of h in omega (arith, n)
      cause_6 e h = let n = ap number_of h in omega (arith, n)
  came_6 (by_journal cause fails link is) = fails.failed (mount_6 cause is)
    where
      mount_6 : (e : MountFault) → ends.DiskFault ≡ mount_status e → e ≡ mount.DiskFault
      mount_6 mount.DiskFault h = refl
      mount_6 e h = absurd (let n = ap number_of h in omega (arith, n))
  came_6 (by_key link is) = differ ends.DiskFault ends.UnknownKey is (λ n. omega (arith, n))
  came_6 (by_disk rose link is) = rose
  came_6 (by_late l) = absurd (true≢false l)

  abbrev IsDamaged : Type 0
  IsDamaged = (at : ℕ) × (IsDamagedAt (g.seen p.before.disk) limits.half at ⊎ IsUnreadAt (g.seen p.before.disk) limits.half at)

  came_7 : g.tells → Came ends.DamagedJournal → IsDamaged
  came_7 tells (by_memory link is) = differ ends.DamagedJournal ends.NoMemory is (λ n. omega (arith, n))
  came_7 tells (by_settings cause link is) = absurd (cause_7 cause is)
    where
      cause_7 : (e : NoSettings) → ends.DamagedJournal ≡ status_of e → ⊥
      cause_7 none.ReadFault h = let n = ap number_of h in omega (arith, n)
      cause_7 e h = let n = ap number_of h in omega (arith, n)
  came_7 tells (by_journal cause fails link is) = let at = mount_7 cause is in (at.0, fails.damaged tells at.0 at.1)
    where
      mount_7 : (e : MountFault) → ends.DamagedJournal ≡ mount_status e → (at : ℕ) × (e ≡ mount.Damaged at)
      mount_7 (mount.Damaged at) h = (at, refl)
      mount_7 e h = absurd (let n = ap number_of h in omega (arith, n))
  came_7 tells (by_key link is) = differ ends.DamagedJournal ends.UnknownKey is (λ n. omega (arith, n))
  came_7 tells (by_disk rose link is) = differ ends.DamagedJournal ends.DiskFault is (λ n. omega (arith, n))
  came_7 tells (by_late l) = absurd (true≢false l)

  came_13 : Came ends.JournalTooSmall → length (g.seen p.before.disk) < 2 * limits.half
  came_13 (by_memory link is) = differ ends.JournalTooSmall ends.NoMemory is (λ n. omega (arith, n))
  came_13 (by_settings cause link is) = absurd (cause_13 cause is)
    where
      cause_13 : (e : NoSettings) → ends.JournalTooSmall ≡ status_of e → ⊥
      cause_13 none.ReadFault h = let n = ap number_of h in omega (arith, n)
      cause_13 e h = let n = ap number_of h in omega (arith, n)
  came_13 (by_journal cause fails link is) = let size = mount_13 cause is in fails.small_only size.0 size.1
    where
      mount_13 : (e : MountFault) → ends.JournalTooSmall ≡ mount_status e → (size : ℕ) × (e ≡ mount.TooSmall size)
      mount_13 (mount.TooSmall size) h = (size, refl)
      mount_13 e h = absurd (let n = ap number_of h in omega (arith, n))
  came_13 (by_key link is) = differ ends.JournalTooSmall ends.UnknownKey is (λ n. omega (arith, n))
  came_13 (by_disk rose link is) = differ ends.JournalTooSmall ends.DiskFault is (λ n. omega (arith, n))
  came_13 (by_late l) = absurd (true≢false l)

  came_early : (status : Status) → is_early (number_of status) ≡ true → Came status → IsUntouched p
  came_early status early (by_memory link is) = link
  came_early status early (by_settings cause link is) = link
  came_early status early (by_journal cause fails link is) = link
  came_early status early (by_key link is) = link
  came_early status early (by_disk rose link is) = link
  came_early status early (by_late l) = absurd (true≢false (sym early ∙ l))

  ran_came : (words : List (List ℕ)) (status : Status) → Ran g words limits clock p status → (status ≡ ends.Usage → ⊥) → Came status
  ran_came words status (no_memory still is) other = by_memory still.link is
  ran_came words status (usage never still is) other = absurd (other is)
  ran_came words status (does command asked d) other = did_came command status (did command status d)

  module _ (words : List (List ℕ)) (status : Status) (ran : Ran g words limits clock p status) where
    -- 4 is told only where a read fault was counted
    pub read_rose : number_of status ≡ 4 → RoseRead
    read_rose h = at_4 (subst (λ (s : Status). Ran g words limits clock p s) (of_4 status h) ran)
      where
        at_4 : Ran g words limits clock p ends.ReadFault → RoseRead
        at_4 (no_memory still is) = differ ends.ReadFault ends.NoMemory is (λ n. omega (arith, n))
        at_4 (usage never still is) = differ ends.ReadFault ends.Usage is (λ n. omega (arith, n))
        at_4 (does command asked d) = did_4 command (did command ends.ReadFault d)

    -- 5 only where a write fault was
    pub write_rose : number_of status ≡ 5 → RoseWrite
    write_rose h = at_5 (subst (λ (s : Status). Ran g words limits clock p s) (of_5 status h) ran)
      where
        at_5 : Ran g words limits clock p ends.WriteFault → RoseWrite
        at_5 (no_memory still is) = differ ends.WriteFault ends.NoMemory is (λ n. omega (arith, n))
        at_5 (usage never still is) = differ ends.WriteFault ends.Usage is (λ n. omega (arith, n))
        at_5 (does command asked d) = did_5 command (did command ends.WriteFault d)

    -- 6 only where a fault of the disk was
    pub disk_rose : number_of status ≡ 6 → RoseDisk
    disk_rose h = came_6 (ran_came words ends.DiskFault (subst (λ (s : Status). Ran g words limits clock p s) (of_6 status h) ran)
        (λ same. differ ends.DiskFault ends.Usage same (λ n. omega (arith, n))))

    -- 7 only where the journal is damaged
    pub is_damaged : g.tells → number_of status ≡ 7 → IsDamaged
    is_damaged tells h = came_7 tells (ran_came words ends.DamagedJournal (subst (λ (s : Status). Ran g words limits clock p s) (of_7 status h) ran)
        (λ same. differ ends.DamagedJournal ends.Usage same (λ n. omega (arith, n))))

    -- 13 only where the disk is too small
    pub is_small : number_of status ≡ 13 → length (g.seen p.before.disk) < 2 * limits.half
    is_small h = came_13 (ran_came words ends.JournalTooSmall (subst (λ (s : Status). Ran g words limits clock p s) (of_13 status h) ran)
        (λ same. differ ends.JournalTooSmall ends.Usage same (λ n. omega (arith, n))))

    -- the early ends leave the link
    pub early_stays : is_early (number_of status) ≡ true → p.after.link ≡ p.before.link
    early_stays early = told ran
      where
        told : Ran g words limits clock p status → p.after.link ≡ p.before.link
        told (no_memory still is) = still.link
        told (usage never still is) = still.link
        told (does command asked d) = came_early status early (did_came command status (did command status d))

    -- 2 says that the words are no command
    pub tells_usage : number_of status ≡ 2 → IsUsage words
    tells_usage h = at_2 (subst (λ (s : Status). Ran g words limits clock p s) (of_2 status h) ran)
      where
        at_2 : Ran g words limits clock p ends.Usage → IsUsage words
        at_2 (no_memory still is) = differ ends.Usage ends.NoMemory is (λ n. omega (arith, n))
        at_2 (usage never still is) = never
        at_2 (does command asked d) = absurd (came_2 (did_came command ends.Usage (did command ends.Usage d)))

    -- words that are no command have 2, unless memory ran out, and leave all ends
    pub usage_status : IsUsage words → ((number_of status ≡ 2) ⊎ (number_of status ≡ 8)) × (p.after.link ≡ p.before.link)
    usage_status none_asked = told ran
      where
        told : Ran g words limits clock p status → ((number_of status ≡ 2) ⊎ (number_of status ≡ 8)) × (p.after.link ≡ p.before.link)
        told (no_memory still is) = (inr (ap number_of is), still.link)
        told (usage other still is) = (inl (ap number_of is), still.link)
        told (does command asked d) = absurd (none_asked command asked)

    -- only commands that need settings read them
    pub settings_stay : UsesNoSettings words → p.after.source ≡ p.before.source
    settings_stay unused = told ran
      where
        told : Ran g words limits clock p status → p.after.source ≡ p.before.source
        told (no_memory still is) = still.source
        told (usage other still is) = still.source
        told (does command asked d) = unread command status (unused command asked) (did command status d)

    -- only commands that need the journal touch the disk
    pub disk_stays : UsesNoJournal words → p.after.disk ≡ p.before.disk
    disk_stays unused = told ran
      where
        told : Ran g words limits clock p status → p.after.disk ≡ p.before.disk
        told (no_memory still is) = still.disk
        told (usage other still is) = still.disk
        told (does command asked d) = unmoved command status (unused command asked) d

    -- what was asked was done
    pub done : (command : CommandValue) → IsCommand words command → Does g limits clock command p status
    done command asked = told ran
      where
        nothing : (c : CommandValue) → IsStill p → status ≡ ends.NoMemory → Does g limits clock c p status
        nothing (check c) still is = record { source = still.source; disk = still.disk; judged = inl (still.link, is) }
        nothing answer still is = out_of_memory still is
        nothing (issue c) still is = out_of_memory still is
        nothing (launch c) still is = out_of_memory still is
        nothing (passback c) still is = out_of_memory still is
        nothing (grades c) still is = out_of_memory still is

        told : Ran g words limits clock p status → Does g limits clock command p status
        told (no_memory still is) = nothing command still is
        told (usage never still is) = absurd (never command asked)
        told (does other was d) = subst (λ (c : CommandValue). Does g limits clock c p status) (words_ask_once words other command was asked) d
