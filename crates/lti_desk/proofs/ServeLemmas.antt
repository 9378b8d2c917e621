-- What a run of calls does to an office, answer by answer.
use Rattle.std.proofs.Common.{◌≡◌, ◌⊎◌, ◌+◌, ℕ, Bool, true, false, true≢false, not, inl, inr, List, [], ◌∷◌, ◌++◌, length, All, refl, ⊎_elim, sym, ap, ◌∙◌, subst, append_assoc, arith}
use Rattle.std.proofs.lemmas.Bool.{cond-true, cond-false, cond_both, cases_Bool}
use Rattle.std.proofs.lemmas.List.{append-nil, length-append}
use Rattle.std.proofs.lemmas.List.Elements.{All-nil, All-cons}
use Rattle.lti_outside.specs.DiskMoments.{LeavesOnly}
use Rattle.lti_outside.specs.declared.disk.Disk.{Ghosts}
use Rattle.lti_outside.proofs.DiskMomentLemmas.{OnlyNow, LeavesOnly-start, LeavesOnly-then, LeavesOnly-weaken}
use Rattle.gate_journal.specs.Half.{Place}
use Rattle.lti_machine.specs.History.{Member, Leads, AcceptsByRules, after_all}
use Rattle.lti_machine.specs.Rules.{decide, entry_of, now_of, is_acceptance}
use Rattle.lti_machine.specs.declared.call.Call.{Call}
use Rattle.lti_machine.specs.declared.entry.Entry.{Entry}
use Rattle.lti_machine.specs.declared.reply.Reply.{Reply}
use Rattle.lti_machine.specs.declared.reply.Reply.TheVariants as reply
use Rattle.turn_lock.specs.Trail.{Adds}
use Rattle.lti_desk.specs.Answering.{Answers, LeavesFrom, list_of}
use Rattle.lti_desk.specs.Crash.{IsFor, IsInDoubt, IsLeft}
use Rattle.lti_desk.specs.Lawful.{is_run_full, start, IsKeeping, KeepsFrom}
use Rattle.lti_desk.specs.Legal.{Point, Legal, IsMember, IsReplied, entry_at, next, reach, step}
use Rattle.lti_desk.specs.Legal.IsReplied.{refused, too_long, accepted, no_memory, disk_fault}
use Rattle.lti_desk.specs.Office.{OfficeValue}
use Rattle.lti_desk.specs.Reading.{AreEntries}
use Rattle.lti_desk.specs.Serving.{IsLeftSince, Serves, answered_of}
use Rattle.lti_desk.specs.declared.origin.Origin.{Origin}
use Rattle.lti_desk.proofs.MountLemmas.{of_each}
use Rattle.lti_desk.proofs.OfficeLemmas.{after_push, reach_entries, doubt_comes, told_or_not}

-- how many bytes a half has doesn't change
step_half : (p : Point) (m : Member) → (step p m).place.half ≡ p.place.half
step_half p m =
    cond_both (is_acceptance m.1) (next p.place p.entries (entry_of m.0 m.1 (now_of p.entries m.0))) p.place (λ (q : Place). q.half ≡ p.place.half) (λ _. refl) (λ _. refl)

reach_half : (p : Point) (ms : List Member) → (reach p ms).place.half ≡ p.place.half
reach_half p [] = refl
reach_half p (m ∷ ms) = reach_half (step p m) ms ∙ step_half p m

half_of : {D : Type 0} (g : Ghosts D) (office : OfficeValue D) (began : List Entry) → KeepsFrom g office began → office.place.half ≡ office.origin.journal.half
half_of g office began keeps = ap (λ (p : Place). p.half) keeps.place ∙ reach_half (start office.origin began) office.trail

-- the last member of a legal history has its cause
last_member : (window : ℕ) (p : Point) (ms : List Member) (m : Member) → Legal window p (ms ++ m ∷ []) → IsMember window (reach p ms) m
last_member window p [] m legal = legal.0
last_member window p (x ∷ xs) m legal = last_member window (step p x) xs m legal.1

-- an acceptance is what was decided
as_decided : (decided : Reply) (full : Bool) (free before : ℕ) (given : Reply) → is_acceptance given ≡ true → IsReplied decided full free before given → given ≡ decided
as_decided decided full free before given agreed (refused n is) = is
as_decided decided full free before given agreed (too_long y f is) = absurd (true≢false (sym agreed ∙ ap is_acceptance is))
as_decided decided full free before given agreed (accepted y f is) = is
as_decided decided full free before given agreed (no_memory y f is) = absurd (true≢false (sym agreed ∙ ap is_acceptance is))
as_decided decided full free before given agreed (disk_fault y f faults rose is) = absurd (true≢false (sym agreed ∙ ap is_acceptance is))

-- so a legal history goes by the rules
pub by_rules : (window : ℕ) (p : Point) (ms : List Member) → Legal window p ms → AcceptsByRules window p.entries ms
by_rules window p [] legal = legal
by_rules window p (m ∷ ms) legal = (λ agreed. as_decided (decide p.entries m.0 window) _ _ p.faults m.1 agreed legal.0, by_rules window (step p m) ms legal.1)

-- and its entry is the one that its call was to have
entry_is : (window : ℕ) (origin : Origin) (began : List Entry) (trail : List Member) (call : Call) (given : Reply) → is_acceptance given ≡ true
    → Legal window (start origin began) (trail ++ (call, given) ∷ []) → entry_of call given (now_of (after_all began trail) call) ≡ entry_at window (after_all began trail) call
entry_is window origin began trail call given agreed legal =
    let p = reach (start origin began) trail in
    let same : given ≡ decide p.entries call window = as_decided (decide p.entries call window) _ _ p.faults given agreed (last_member window (start origin began) trail (call, given) legal) in
    let here : given ≡ decide (after_all began trail) call window = same ∙ ap (λ (es : List Entry). decide es call window) (reach_entries (start origin began) trail) in
    ap (λ (r : Reply). entry_of call r (now_of (after_all began trail) call)) here

-- an image behind a front of a history stands behind one of a longer history
grown : (half window : ℕ) (began : List Entry) (first trail extra more : List Member) (image : List ℕ) → more ≡ trail ++ extra
    → IsLeftSince half window began first trail image → IsLeftSince half window began first more image
grown half window began first trail extra more image is found = record {
  since = found.since;
  behind = found.behind ++ extra;
  trail_is = is ∙ ap (λ (l : List Member). l ++ extra) found.trail_is ∙ append_assoc (first ++ found.since) found.behind extra;
  left = found.left;
}

-- the whole history is a front of it
whole : (half window : ℕ) (began : List Entry) (first since : List Member) (image : List ℕ) → IsLeft half window began (first ++ since) image
    → IsLeftSince half window began first (first ++ since) image
whole half window began first since image left = record { since = since; behind = []; trail_is = sym (append-nil (first ++ since)); left = left }

none_since : (half window : ℕ) (began : List Entry) (trail : List Member) (image : List ℕ) → IsLeft half window began trail image → IsLeftSince half window began trail trail image
none_since half window began trail image left = record {
  since = [];
  behind = [];
  trail_is = sym (append-nil trail) ∙ sym (append-nil (trail ++ []));
  left = subst (λ (l : List Member). IsLeft half window began l image) (sym (append-nil trail)) left;
}

-- what is left since a later history is left since an earlier one
earlier : (half window : ℕ) (began : List Entry) (first extra later trail : List Member) (image : List ℕ) → later ≡ first ++ extra
    → IsLeftSince half window began later trail image → IsLeftSince half window began first trail image
earlier half window began first extra later trail image is found =
    let same : later ++ found.since ≡ first ++ (extra ++ found.since) = ap (λ (l : List Member). l ++ found.since) is ∙ append_assoc first extra found.since in
    record {
      since = extra ++ found.since;
      behind = found.behind;
      trail_is = found.trail_is ∙ ap (λ (l : List Member). l ++ found.behind) same;
      left = subst (λ (l : List Member). IsLeft half window began l image) same found.left;
    }

-- what the history gains of a call that isn't told that the run is full
added : (refuses : Bool) (limit : ℕ) (call : Call) (given : Reply) (before behind : List Member) → refuses ≡ false → Adds refuses limit call given before behind → behind ≡ before ++ (call, given) ∷ []
added true limit call given before behind is adds = absurd (true≢false is)
added false limit call given before behind is adds = adds.0

-- the two kinds of call that reach the disk
agreed_not_full : (given : Reply) → is_acceptance given ≡ true → is_run_full given ≡ false
agreed_not_full reply.Noted is = refl
agreed_not_full reply.Launched is = refl
agreed_not_full reply.Graded is = refl
agreed_not_full (reply.GradeRead score) is = refl
agreed_not_full reply.Deleted is = refl
agreed_not_full reply.UnknownId is = refl
agreed_not_full reply.BadScore is = refl
agreed_not_full reply.Issued is = refl
agreed_not_full reply.AlreadyIssued is = refl
agreed_not_full (reply.Outside now) is = refl
agreed_not_full reply.Used is = refl
agreed_not_full (reply.WindowFull live) is = refl
agreed_not_full (reply.JournalFull free) is = refl
agreed_not_full (reply.DiskFault faults) is = refl
agreed_not_full reply.RunFull is = absurd (true≢false (sym is))
agreed_not_full reply.NoMemory is = refl

-- the entry of an accepted call that a crash leaves is that of the longer history
accepted_left : (half window : ℕ) (origin : Origin) (began : List Entry) (trail : List Member) (call : Call) (given : Reply) (image : List ℕ) → is_acceptance given ≡ true
    → Legal window (start origin began) (trail ++ (call, given) ∷ [])
    → IsFor half (after_all began trail ++ entry_at window (after_all began trail) call ∷ []) image
    → IsLeft half window began (trail ++ (call, given) ∷ []) image
accepted_left half window origin began trail call given image agreed legal left =
    let list = after_all began trail in
    let same : list ++ entry_at window list call ∷ [] ≡ after_all began (trail ++ (call, given) ∷ []) =
    ap (λ (e : Entry). list ++ e ∷ []) (sym (entry_is window origin began trail call given agreed legal))
    ∙ sym (cond-true (is_acceptance given) (list ++ entry_of call given (now_of list call) ∷ []) list agreed)
    ∙ sym (after_push began trail (call, given)) in
    inl (subst (λ (es : List Entry). IsFor half es image) same left)

-- that of a call that a fault of the disk answered is in doubt
faulted_left : (half window : ℕ) (began : List Entry) (trail : List Member) (call : Call) (given : Reply) (faults : ℕ) (image : List ℕ) → given ≡ reply.DiskFault faults
    → IsFor half (after_all began trail ++ entry_at window (after_all began trail) call ∷ []) image
    → IsLeft half window began (trail ++ (call, given) ∷ []) image
faulted_left half window began trail call given faults image fault left =
    let list = after_all began trail in
    let entry = entry_at window list call in
    let same : list ≡ after_all began (trail ++ (call, given) ∷ []) =
    sym (cond-false (is_acceptance given) (list ++ entry_of call given (now_of list call) ∷ []) list (ap is_acceptance fault))
    ∙ sym (after_push began trail (call, given)) in
    inr (
      entry,
      subst (λ (r : Reply). IsInDoubt window began (trail ++ (call, r) ∷ []) entry) (sym fault) (doubt_comes window began trail call faults),
      subst (λ (es : List Entry). IsFor half (es ++ entry ∷ []) image) same left,
    )

module _ {D : Type 0} (g : Ghosts D) where
  -- one answer, over the entries with which the history began
  module _ (old new : OfficeValue D) (call : Call) (given : Reply) (began : List Entry) where
    abbrev Fronts : List ℕ → Type 0
    Fronts = IsLeftSince old.origin.journal.half old.origin.window began old.trail new.trail

    -- in flight the entry of a call stands in an image as it does in one behind the call
    flying : (new.trail ≡ old.trail ++ (call, given) ∷ [])
        → ((image : List ℕ) → IsFor old.place.half (list_of old began ++ entry_at old.origin.window (list_of old began) call ∷ []) image
        → IsLeft old.place.half old.origin.window began (old.trail ++ (call, given) ∷ []) image)
        → KeepsFrom g old began → LeavesFrom g old new call given began → g.tells → (new.disk ≡ old.disk) ⊎ LeavesOnly g old.disk new.disk Fronts
    flying is lands keeps leaves tells =
        let half = half_of g old began keeps in
        let more = old.trail ++ (call, given) ∷ [] in
        ⊎_elim (λ same. inl same)
        (λ only. inr (LeavesOnly-weaken g old.disk new.disk
        (λ image. IsLeft old.place.half old.origin.window began old.trail image
        ⊎ IsFor old.place.half (list_of old began ++ entry_at old.origin.window (list_of old began) call ∷ []) image)
        Fronts only
        (λ image. ⊎_elim
        (λ was. grown old.origin.journal.half old.origin.window began old.trail old.trail ((call, given) ∷ []) new.trail image is
        (none_since old.origin.journal.half old.origin.window began old.trail image (subst (λ (h : ℕ). IsLeft h old.origin.window began old.trail image) half was)))
        (λ now. grown old.origin.journal.half old.origin.window began old.trail more [] new.trail image (is ∙ sym (append-nil more))
        (whole old.origin.journal.half old.origin.window began old.trail ((call, given) ∷ []) image (subst (λ (h : ℕ). IsLeft h old.origin.window began more image) half (lands image now)))))))
        (leaves.moments tells)

    answered : (is_acceptance given ≡ true) ⊎ (is_acceptance given ≡ false) → ((faults : ℕ) × (given ≡ reply.DiskFault faults)) ⊎ ((faults : ℕ) → given ≡ reply.DiskFault faults → ⊥)
        → Answers g old call given new → KeepsFrom g old began → KeepsFrom g new began → LeavesFrom g old new call given began → g.tells
        → (new.disk ≡ old.disk) ⊎ LeavesOnly g old.disk new.disk Fronts
    answered (inl agreed) told did keeps later leaves tells =
        let is = added (is_run_full given) old.limit call given old.trail new.trail (agreed_not_full given agreed) did.trail in
        let legal : Legal old.origin.window (start old.origin began) (old.trail ++ (call, given) ∷ []) =
        subst (λ (t : List Member). Legal old.origin.window (start old.origin began) t) is
        (subst (λ (o : Origin). Legal o.window (start o began) new.trail) did.origin later.legal) in
        flying is (λ image. accepted_left old.place.half old.origin.window old.origin began old.trail call given image agreed legal) keeps leaves tells
    answered (inr not) (inl told) did keeps later leaves tells =
        let is = added (is_run_full given) old.limit call given old.trail new.trail (ap is_run_full told.1) did.trail in
        flying is (λ image. faulted_left old.place.half old.origin.window began old.trail call given told.0 image told.1) keeps leaves tells
    answered (inr not) (inr other) did keeps later leaves tells = inl (leaves.untouched not other).0

  -- a run, over the entries with which the history began
  pub record Runs (from : OfficeValue D) (told : List Member) (to : OfficeValue D) : Type 0 where
    pub origin : to.origin ≡ from.origin
    pub limit : to.limit ≡ from.limit
    pub trail : to.trail ≡ from.trail ++ answered_of told
    pub full : All (λ m. is_run_full m.1 ≡ true → length to.trail ≡ to.limit) told
    pub keeps : IsKeeping g to
    pub moments : (began : List Entry) → AreEntries from.origin.pieces.value.items began → g.tells
        → LeavesOnly g from.disk to.disk (IsLeftSince from.origin.journal.half from.origin.window began from.trail to.trail)

  none_yet : OnlyNow g → (office : OfficeValue D) → IsKeeping g office → Runs office [] office
  none_yet only_now office keeps = record {
    origin = refl;
    limit = refl;
    trail = sym (append-nil office.trail);
    full = All-nil (λ (m : Member). is_run_full m.1 ≡ true → length office.trail ≡ office.limit);
    keeps = keeps;
    moments = λ began are tells.
        let kept = of_each office.origin (λ (es : List Entry). KeepsFrom g office es) keeps began are in
        LeavesOnly-start g office.disk (IsLeftSince office.origin.journal.half office.origin.window began office.trail office.trail) only_now
        (λ image left. none_since office.origin.journal.half office.origin.window began office.trail image
        (subst (λ (h : ℕ). IsLeft h office.origin.window began office.trail image) (half_of g office began kept) (kept.images tells image left)));
  }

  -- what the history gains of one call and of those behind it
  gains : (refuses : Bool) (limit : ℕ) (call : Call) (given : Reply) (ms before mid behind : List Member) → is_run_full given ≡ refuses → Adds refuses limit call given before mid
      → behind ≡ mid ++ answered_of ms → behind ≡ before ++ answered_of ((call, given) ∷ ms)
  gains true limit call given ms before mid behind full adds is =
      is ∙ ap (λ (l : List Member). l ++ answered_of ms) adds.0
      ∙ ap (λ (l : List Member). before ++ l) (sym (cond-false (not (is_run_full given)) ((call, given) ∷ answered_of ms) (answered_of ms) (ap not full)))
  gains false limit call given ms before mid behind full adds is =
      is ∙ ap (λ (l : List Member). l ++ answered_of ms) adds.0 ∙ append_assoc before ((call, given) ∷ []) (answered_of ms)
      ∙ ap (λ (l : List Member). before ++ l) (sym (cond-true (not (is_run_full given)) ((call, given) ∷ answered_of ms) (answered_of ms) (ap not full)))

  -- the history after one call begins with the one before it
  gained : (refuses : Bool) (limit : ℕ) (call : Call) (given : Reply) (before mid : List Member) → Adds refuses limit call given before mid → (x : List Member) × (mid ≡ before ++ x)
  gained true limit call given before mid adds = ([], adds.0 ∙ sym (append-nil before))
  gained false limit call given before mid adds = ((call, given) ∷ [], adds.0)

  was_full : (refuses : Bool) (limit : ℕ) (call : Call) (given : Reply) (before mid : List Member) → is_run_full given ≡ refuses → Adds refuses limit call given before mid
      → is_run_full given ≡ true → length before ≡ limit
  was_full true limit call given before mid is adds full = adds.1
  was_full false limit call given before mid is adds full = absurd (true≢false (sym full ∙ is))

  one_more : (from next to : OfficeValue D) (call : Call) (given : Reply) (ms : List Member) → IsKeeping g from → Answers g from call given next → Runs next ms to
      → Runs from ((call, given) ∷ ms) to
  one_more from next to call given ms keeps did runs =
      let m : Member = (call, given) in
      let half = from.origin.journal.half in
      let window = from.origin.window in
      let trail = gains (is_run_full given) from.limit call given ms from.trail next.trail to.trail refl did.trail runs.trail in
      let limit = runs.limit ∙ did.limit in
      let within = runs.keeps.holds.within in
      let most : length to.trail ≡ length from.trail + length (answered_of (m ∷ ms)) = ap length trail ∙ length-append from.trail (answered_of (m ∷ ms)) in
      record {
        origin = runs.origin ∙ did.origin;
        limit = limit;
        trail = trail;
        full = All-cons (λ (x : Member). is_run_full x.1 ≡ true → length to.trail ≡ to.limit) m ms
            (λ full. let was = was_full (is_run_full given) from.limit call given from.trail next.trail refl did.trail full in omega (arith, within, was, limit, most))
            runs.full;
        keeps = runs.keeps;
        moments = λ began are tells.
            let kept = of_each from.origin (λ (es : List Entry). KeepsFrom g from es) keeps began are in
            let later = of_each next.origin (λ (es : List Entry). KeepsFrom g next es) did.keeps began
            (subst (λ (o : Origin). AreEntries o.pieces.value.items began) (sym did.origin) are) in
            let leaves = of_each from.origin (λ (es : List Entry). LeavesFrom g from next call given es) did.leaves began are in
            let extra : (x : List Member) × (next.trail ≡ from.trail ++ x) = gained (is_run_full given) from.limit call given from.trail next.trail did.trail in
            let Since : List ℕ → Type 0 = IsLeftSince half window began from.trail to.trail in
            let rest : LeavesOnly g next.disk to.disk (IsLeftSince half window began next.trail to.trail) =
            subst (λ (o : Origin). AreEntries o.pieces.value.items began → LeavesOnly g next.disk to.disk (IsLeftSince o.journal.half o.window began next.trail to.trail)) did.origin
            (λ read. runs.moments began read tells) are in
            let since : LeavesOnly g next.disk to.disk Since = LeavesOnly-weaken g next.disk to.disk (IsLeftSince half window began next.trail to.trail) Since rest
            (λ image. earlier half window began from.trail extra.0 next.trail to.trail image extra.1) in
            ⊎_elim (λ same. subst (λ (d : D). LeavesOnly g d to.disk Since) same since)
            (λ only. LeavesOnly-then g from.disk next.disk to.disk (IsLeftSince half window began from.trail next.trail) Since Since only since
            (λ image. grown half window began from.trail next.trail (answered_of ms) to.trail image runs.trail) (λ image here. here))
            (answered from next call given began (cases_Bool (is_acceptance given)) (told_or_not given) did kept later leaves tells);
      }

  runs : OnlyNow g → (from to : OfficeValue D) (told : List Member) → Leads (λ old call given new. Answers g old call given new) from told to → IsKeeping g from → Runs from told to
  runs only_now from to [] leads keeps = subst (λ (office : OfficeValue D). Runs from [] office) (sym leads) (none_yet only_now from keeps)
  runs only_now from to (m ∷ ms) leads keeps = one_more from leads.0 to m.0 m.1 ms keeps leads.1 (runs only_now leads.0 to ms leads.2 leads.1.keeps)

  -- a run of calls, each answered by the office as the one before it left it
  pub serves : OnlyNow g → (from to : OfficeValue D) (told : List Member) → Leads (λ old call given new. Answers g old call given new) from told to → IsKeeping g from → Serves g from told to
  serves only_now from to told leads keeps =
      let did = runs only_now from to told leads keeps in
      let began = did.keeps.began in
      let half : to.place.half ≡ from.origin.journal.half = half_of g to began did.keeps.holds ∙ ap (λ (o : Origin). o.journal.half) did.origin in
      record {
        origin = did.origin;
        limit = did.limit;
        trail = did.trail;
        full = did.full;
        keeps = did.keeps;
        moments = λ tells. record {
          began = began;
          read = did.keeps.read;
          holds =
              subst (λ (h : ℕ). LeavesOnly g from.disk to.disk (IsLeftSince h to.origin.window began from.trail to.trail)) (sym half)
              (subst (λ (o : Origin). LeavesOnly g from.disk to.disk (IsLeftSince from.origin.journal.half o.window began from.trail to.trail)) (sym did.origin)
              (did.moments began (subst (λ (o : Origin). AreEntries o.pieces.value.items began) did.origin did.keeps.read) tells));
        };
      }
