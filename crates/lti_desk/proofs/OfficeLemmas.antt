-- How a history goes on, and what that says of an office.
use Rattle.std.proofs.Common.{◌≡◌, ◌⊎◌, ◌<◌, ◌≤◌, ◌+◌, ℕ, cond, Bool, true, false, true≢false, inl, inr, List, [], ◌∷◌, ◌++◌, length, Option, Some, None, refl, ⊎_elim, sym, ap, ◌∙◌, subst, append_assoc, arith}
use Rattle.std.proofs.lemmas.List.{length-append}
use Rattle.std.proofs.lemmas.List.Elements.{All-nil, All-push}
use Rattle.std.proofs.lemmas.Bool.{cond-false, cases_Bool}
use Rattle.std.proofs.lemmas.List.Sums.{sum_by_push, count_by-le-length}
use Rattle.lti_outside.specs.DiskMoments.{LeavesOnly}
use Rattle.lti_outside.proofs.DiskMomentLemmas.{LeavesOnly-weaken}
use Rattle.lti_outside.specs.declared.disk.Disk.{Ghosts}
use Rattle.gate_journal.specs.Half.{Place, free_of, StandsFor}
use Rattle.gate_journal.specs.Journal.{disk_of, place_of, doubts}
use Rattle.gate_journal.specs.Position.{place_at}
use Rattle.gate_journal.specs.declared.journal.Journal.{Journal}
use Rattle.gate_journal.proofs.HeadLemmas.{Stands-for}
use Rattle.gate_journal.proofs.DoubtLemmas.{either}
use Rattle.lti_machine.specs.History.{Member, after_all}
use Rattle.lti_machine.specs.Rules.{decide, after, entry_of, now_of, is_acceptance}
use Rattle.lti_machine.specs.declared.call.Call.{Call}
use Rattle.lti_machine.specs.declared.entry.Entry.{Entry}
use Rattle.lti_machine.specs.declared.reply.Reply.{Reply}
use Rattle.lti_machine.specs.declared.reply.Reply.TheVariants as reply
use Rattle.turn_lock.specs.Trail.{Adds}
use Rattle.lti_desk.specs.Crash.{IsFor, IsInDoubt, IsDoubt, IsLeft}
use Rattle.lti_desk.specs.Held.{IsLed, seen_as}
use Rattle.lti_desk.specs.Keeping.{IsKept}
use Rattle.lti_desk.specs.Answering.{Leaves, Answers}
use Rattle.lti_desk.specs.Keeper.{Knows, Keeps, IsAnswered, IsDoubtAfter, IsOneOfLists, payloads, doubtful}
use Rattle.lti_desk.specs.Keeper.IsDoubtAfter.{old_doubt, new_doubt, no_doubt}
use Rattle.lti_desk.specs.Lawful.{is_run_full, start, IsLawful, IsKeeping}
use Rattle.lti_desk.specs.Legal.{Point, Legal, IsMember, IsReplied, acceptances, entry_at, faults_after, is_full, place_after, reach, step}
use Rattle.lti_desk.specs.Legal.IsReplied.{refused, too_long, accepted, no_memory, disk_fault}
use Rattle.lti_desk.specs.Reading.{AreEntries}
use Rattle.lti_desk.specs.declared.keeper.Keeper.{Keeper}
use Rattle.lti_desk.proofs.ToldLemmas.{told_up_to}
use Rattle.lti_desk.specs.declared.origin.Origin.{Origin}

pub reach_push : (p : Point) (ms : List Member) (m : Member) → reach p (ms ++ m ∷ []) ≡ step (reach p ms) m
reach_push p [] m = refl
reach_push p (x ∷ xs) m = reach_push (step p x) xs m

pub after_push : (entries : List Entry) (ms : List Member) (m : Member) → after_all entries (ms ++ m ∷ []) ≡ after (after_all entries ms) m.0 m.1
after_push entries [] m = refl
after_push entries (x ∷ xs) m = after_push (after entries x.0 x.1) xs m

pub reach_entries : (p : Point) (ms : List Member) → (reach p ms).entries ≡ after_all p.entries ms
reach_entries p [] = refl
reach_entries p (x ∷ xs) = reach_entries (step p x) xs

pub legal_push : (window : ℕ) (p : Point) (ms : List Member) (m : Member) → Legal window p ms → IsMember window (reach p ms) m → Legal window p (ms ++ m ∷ [])
legal_push window p [] m legal is = (is, tt)
legal_push window p (x ∷ xs) m legal is = (legal.0, legal_push window (step p x) xs m legal.1 is)

-- an earlier count serves too
earlier : (decided : Reply) (full : Bool) (free before less : ℕ) (given : Reply) → less ≤ before → IsReplied decided full free before given → IsReplied decided full free less given
earlier decided full free before less given le (refused n is) = refused n is
earlier decided full free before less given le (too_long y f is) = too_long y f is
earlier decided full free before less given le (accepted y f is) = accepted y f is
earlier decided full free before less given le (no_memory y f is) = no_memory y f is
earlier decided full free before less given le (disk_fault y f faults rose is) =
    let later = rose.later in let counted = rose.counted in
    disk_fault y f faults (record { later = omega (arith, later, le); counted = omega (arith, counted, le) }) is

-- a reply, by the list, the window, the place and the count
abbrev Fits : List Entry → ℕ → Place → ℕ → Call → Reply → Type 0
Fits entries window place before call given =
    IsReplied (decide entries call window) (is_full place entries (entry_at window entries call)) (free_of place) before given

pub told_or_not : (given : Reply) → ((faults : ℕ) × (given ≡ reply.DiskFault faults)) ⊎ ((faults : ℕ) → given ≡ reply.DiskFault faults → ⊥)
told_or_not reply.Noted = inr (λ faults is. cc)
told_or_not reply.Launched = inr (λ faults is. cc)
told_or_not reply.Graded = inr (λ faults is. cc)
told_or_not (reply.GradeRead score) = inr (λ faults is. cc)
told_or_not reply.Deleted = inr (λ faults is. cc)
told_or_not reply.UnknownId = inr (λ faults is. cc)
told_or_not reply.BadScore = inr (λ faults is. cc)
told_or_not reply.Issued = inr (λ faults is. cc)
told_or_not reply.AlreadyIssued = inr (λ faults is. cc)
told_or_not (reply.Outside now) = inr (λ faults is. cc)
told_or_not reply.Used = inr (λ faults is. cc)
told_or_not (reply.WindowFull live) = inr (λ faults is. cc)
told_or_not (reply.JournalFull free) = inr (λ faults is. cc)
told_or_not (reply.DiskFault told) = inl (told, refl)
told_or_not reply.RunFull = inr (λ faults is. cc)
told_or_not reply.NoMemory = inr (λ faults is. cc)

faults_le : (given : Reply) (before now : ℕ) → before ≤ now → ((faults : ℕ) → given ≡ reply.DiskFault faults → faults ≡ now) → faults_after before given ≤ now
faults_le reply.Noted before now le told = le
faults_le reply.Launched before now le told = le
faults_le reply.Graded before now le told = le
faults_le (reply.GradeRead score) before now le told = le
faults_le reply.Deleted before now le told = le
faults_le reply.UnknownId before now le told = le
faults_le reply.BadScore before now le told = le
faults_le reply.Issued before now le told = le
faults_le reply.AlreadyIssued before now le told = le
faults_le (reply.Outside at) before now le told = le
faults_le reply.Used before now le told = le
faults_le (reply.WindowFull live) before now le told = le
faults_le (reply.JournalFull free) before now le told = le
faults_le (reply.DiskFault faults) before now le told = let same = told faults refl in omega (arith, same)
faults_le reply.RunFull before now le told = le
faults_le reply.NoMemory before now le told = le

pub not_full : (given : Reply) → (given ≡ reply.RunFull → ⊥) → is_run_full given ≡ false
not_full reply.Noted not = refl
not_full reply.Launched not = refl
not_full reply.Graded not = refl
not_full (reply.GradeRead score) not = refl
not_full reply.Deleted not = refl
not_full reply.UnknownId not = refl
not_full reply.BadScore not = refl
not_full reply.Issued not = refl
not_full reply.AlreadyIssued not = refl
not_full (reply.Outside at) not = refl
not_full reply.Used not = refl
not_full (reply.WindowFull live) not = refl
not_full (reply.JournalFull free) not = refl
not_full (reply.DiskFault faults) not = refl
not_full reply.RunFull not = absurd (not refl)
not_full reply.NoMemory not = refl

-- a doubt stays where a call isn't accepted
doubt_stays : (window : ℕ) (entries : List Entry) (trail : List Member) (m : Member) (doubt : Option Entry) → is_acceptance m.1 ≡ false
    → IsDoubt window entries trail doubt → IsDoubt window entries (trail ++ m ∷ []) doubt
doubt_stays window entries trail m None not is = tt
doubt_stays window entries trail m (Some entry) not is = record {
  front = is.front;
  call = is.call;
  faults = is.faults;
  rest = is.rest ++ m ∷ [];
  trail_is = ap (λ (l : List Member). l ++ m ∷ []) is.trail_is ∙ append_assoc is.front ((is.call, reply.DiskFault is.faults) ∷ is.rest) (m ∷ []);
  none_since = All-push (λ (x : Member). is_acceptance x.1 ≡ false) is.rest m is.none_since not;
  entry_is = is.entry_is;
}

-- a call that a fault of the disk answers may be in doubt
pub doubt_comes : (window : ℕ) (entries : List Entry) (trail : List Member) (call : Call) (faults : ℕ)
    → IsInDoubt window entries (trail ++ (call, reply.DiskFault faults) ∷ []) (entry_at window (after_all entries trail) call)
doubt_comes window entries trail call faults = record {
  front = trail;
  call = call;
  faults = faults;
  rest = [];
  trail_is = refl;
  none_since = All-nil (λ (x : Member). is_acceptance x.1 ≡ false);
  entry_is = refl;
}

pub is_for : (half : ℕ) (entries : List Entry) (image : List ℕ) → StandsFor image half (payloads entries) → IsFor half entries image
is_for half entries image stands = record { list = entries; same = refl; stands = stands }

module _ {D : Type 0} {g : Ghosts D} (old new : Keeper D g) (origin : Origin) (trail : List Member) (call : Call) (given : Reply) where
  module _ (did : IsAnswered old new call given) (held : IsLed old origin trail) where
    abbrev here : Point
    here = reach (start origin held.began) trail

    abbrev entries : List Entry
    entries = after_all held.began trail

    abbrev more : List Member
    more = trail ++ (call, given) ∷ []

    same_entries : entries ≡ here.entries
    same_entries = sym (reach_entries (start origin held.began) trail)

    member : IsMember origin.window here (call, given)
    member =
        subst (λ (es : List Entry). Fits es origin.window here.place here.faults call given) same_entries
        (subst (λ (p : Place). Fits entries origin.window p here.faults call given) held.place
        (subst (λ (w : ℕ). Fits entries w (place_of old.journal) here.faults call given) held.window
        (earlier (decide entries call old.ledger.window.limit) (is_full (place_of old.journal) entries (entry_at old.ledger.window.limit entries call)) (free_of (place_of old.journal))
        (g.faults (disk_of old.journal)) here.faults given held.faults (did.replied entries held.knows))))

    reached : reach (start origin held.began) more ≡ step here (call, given)
    reached = reach_push (start origin held.began) trail (call, given)

    placed : place_of new.journal ≡ (reach (start origin held.began) more).place
    placed =
        did.place entries held.knows
        ∙ ap (λ (p : Place). place_after p entries call given) held.place
        ∙ ap (λ (es : List Entry). place_after here.place es call given) same_entries
        ∙ ap (λ (p : Point). p.place) (sym reached)

    counted : (reach (start origin held.began) more).faults ≤ g.faults (disk_of new.journal)
    counted =
        let le = held.faults in let rose = did.counted in
        subst (λ (p : Point). p.faults ≤ g.faults (disk_of new.journal)) (sym reached)
        (faults_le given here.faults (g.faults (disk_of new.journal)) (omega (arith, le, rose)) (λ faults is. (did.failed entries held.knows faults is).0))

    same_list : is_acceptance given ≡ false → after_all held.began more ≡ entries
    same_list not = after_push held.began trail (call, given) ∙ cond-false (is_acceptance given) (entries ++ entry_of call given (now_of entries call) ∷ []) entries not

    -- what may be left, with a doubt
    abbrev Left : Type 0
    Left = (doubt : Option Entry) × Keeps new (after_all held.began more) doubt × IsDoubt origin.window held.began more doubt

    left_old : is_acceptance given ≡ false → (doubt : Option Entry) → Keeps new entries doubt → IsDoubt origin.window held.began trail doubt → Left
    left_old not doubt keeps is = (
      doubt,
      subst (λ (es : List Entry). Keeps new es doubt) (sym (same_list not)) keeps,
      doubt_stays origin.window held.began trail (call, given) doubt not is,
    )

    left_after_fault : (faults : ℕ) → given ≡ reply.DiskFault faults → (doubt later : Option Entry) → Keeps new entries later → IsDoubt origin.window held.began trail doubt
        → IsDoubtAfter doubt (entry_at old.ledger.window.limit entries call) later → Left
    left_after_fault faults fault doubt later keeps is (old_doubt same) =
        left_old (ap is_acceptance fault) later keeps (subst (λ (o : Option Entry). IsDoubt origin.window held.began trail o) (sym same) is)
    left_after_fault faults fault doubt later keeps is (new_doubt same) = (
      later,
      subst (λ (es : List Entry). Keeps new es later) (sym (same_list (ap is_acceptance fault))) keeps,
      subst (λ (o : Option Entry). IsDoubt origin.window held.began more o) (sym same)
          (subst (λ (r : Reply). IsInDoubt origin.window held.began (trail ++ (call, r) ∷ []) (entry_at old.ledger.window.limit entries call)) (sym fault)
          (subst (λ (w : ℕ). IsInDoubt origin.window held.began (trail ++ (call, reply.DiskFault faults) ∷ []) (entry_at w entries call)) (sym held.window)
          (doubt_comes origin.window held.began trail call faults))),
    )
    left_after_fault faults fault doubt later keeps is (no_doubt same) =
        left_old (ap is_acceptance fault) later keeps (subst (λ (o : Option Entry). IsDoubt origin.window held.began trail o) (sym same) tt)

    left_after_refusal : is_acceptance given ≡ false → ((faults : ℕ) × (given ≡ reply.DiskFault faults)) ⊎ ((faults : ℕ) → given ≡ reply.DiskFault faults → ⊥)
        → (doubt : Option Entry) → Keeps old entries doubt → IsDoubt origin.window held.began trail doubt → Left
    left_after_refusal not (inl told) doubt keeps is =
        let later = did.doubt told.0 told.1 entries doubt held.knows keeps in
        left_after_fault told.0 told.1 doubt later.0 later.1 is later.2
    left_after_refusal not (inr other) doubt keeps is =
        left_old not doubt (subst (λ (j : Journal D g). IsKept {g = g} j (payloads entries) (doubtful entries doubt)) (sym (did.untouched not other)) keeps) is

    left : (is_acceptance given ≡ true) ⊎ (is_acceptance given ≡ false) → (doubt : Option Entry) → Keeps old entries doubt → IsDoubt origin.window held.began trail doubt → Left
    left (inl agreed) doubt keeps is = (
      None,
      subst (λ (es : List Entry). Keeps new es None) (sym (after_push held.began trail (call, given))) (did.kept agreed entries doubt held.knows keeps),
      tt,
    )
    left (inr not) doubt keeps is = left_after_refusal not (told_or_not given) doubt keeps is

    abbrev half : ℕ
    half = (place_of old.journal).half

    abbrev entry : Entry
    entry = entry_at origin.window entries call

    one_left : (doubt : Option Entry) → IsDoubt origin.window held.began trail doubt → (image : List ℕ) → IsOneOfLists half entries doubt entry image
        → IsLeft half origin.window held.began trail image ⊎ IsFor half (entries ++ entry ∷ []) image
    one_left None is image =
        ⊎_elim (λ one. inl (inl (is_for half entries image one))) (λ two. inr (is_for half (entries ++ entry ∷ []) image two))
    one_left (Some other) is image =
        ⊎_elim (λ one. inl (inl (is_for half entries image one)))
        (⊎_elim (λ two. inl (inr (other, is, is_for half (entries ++ other ∷ []) image two))) (λ three. inr (is_for half (entries ++ entry ∷ []) image three)))

    moments_left : g.tells → (disk_of new.journal ≡ disk_of old.journal) ⊎ LeavesOnly g (disk_of old.journal) (disk_of new.journal)
        (λ image. IsLeft half origin.window held.began trail image ⊎ IsFor half (entries ++ entry ∷ []) image)
    moments_left tells =
        let was = held.images tells in
        ⊎_elim (λ same. inl (ap (λ (j : Journal D g). disk_of j) same))
        (λ leaves. inr (LeavesOnly-weaken g (disk_of old.journal) (disk_of new.journal) (IsOneOfLists half entries was.0 entry)
        (λ image. IsLeft half origin.window held.began trail image ⊎ IsFor half (entries ++ entry ∷ []) image)
        (subst (λ (w : ℕ). LeavesOnly g (disk_of old.journal) (disk_of new.journal) (IsOneOfLists half entries was.0 (entry_at w entries call))) held.window leaves)
        (one_left was.0 was.2)))
        (did.moments entries was.0 held.knows was.1)

    kept_images : g.tells → is_acceptance given ≡ true → (doubts new.journal ≡ false)
        × ((image : List ℕ) → g.may_leave (disk_of new.journal) image → IsFor (place_of new.journal).half (after_all held.began more) image)
    kept_images tells agreed =
        let was = held.images tells in
        let kept = did.kept agreed entries was.0 held.knows was.1 in
        let j = new.journal in
        let list = after entries call given in (
          kept.0,
          λ image left. subst (λ (es : List Entry). IsFor j.half es image) (sym (after_push held.began trail (call, given)))
              (is_for j.half list image (Stands-for image (place_of j) j.is_open j.may_open (payloads list) (kept.1.each image left))),
        )

    pub leaves : (most turns turns' : ℕ) → Leaves g
        (seen_as old trail most turns origin)
        (seen_as new (trail ++ (call, given) ∷ []) most turns' origin)
        call given
    leaves most turns turns' = record {
      began = held.began;
      read = held.read;
      holds = record {
        moments = moments_left;
        kept = kept_images;
        failed = did.failed entries held.knows;
        untouched = λ not other.
            let same = did.untouched not other in
            (ap (λ (j : Journal D g). disk_of j) same, ap (λ (j : Journal D g). doubts j) same, ap (λ (j : Journal D g). place_of j) same);
      };
    }

    -- the keeper stands where the longer trail leads
    pub goes_on : IsLed new origin (trail ++ (call, given) ∷ [])
    goes_on = record {
      began = held.began;
      read = held.read;
      legal = legal_push origin.window (start origin held.began) trail (call, given) held.legal member;
      knows = subst (λ (es : List Entry). Knows new es) (sym (after_push held.began trail (call, given))) (did.known entries held.knows);
      window = did.limit ∙ held.window;
      place = placed;
      faults = counted;
      images = λ tells. let was = held.images tells in left (cases_Bool (is_acceptance given)) was.0 was.1 was.2;
    }

module _ {D : Type 0} {g : Ghosts D} (keeper : Keeper D g) (origin : Origin) (trail : List Member) where
  left_images : (window : ℕ) (began : List Entry) (doubt : Option Entry) → Keeps keeper (after_all began trail) doubt → IsDoubt window began trail doubt
      → (image : List ℕ) → g.may_leave (disk_of keeper.journal) image → IsLeft (place_of keeper.journal).half window began trail image
  left_images window began None keeps is image left =
      let j = keeper.journal in let entries = after_all began trail in
      inl (is_for j.half entries image (Stands-for image (place_of j) j.is_open j.may_open (payloads entries) (keeps.1.each image left)))
  left_images window began (Some entry) keeps is image left =
      let j = keeper.journal in let entries = after_all began trail in
      let some = j.some in
      ⊎_elim (λ one. inl (is_for j.half entries image one)) (λ two. inr (entry, is, is_for j.half (entries ++ entry ∷ []) image two))
      (either (place_of j) (omega (arith, some)) j.is_open j.may_open (payloads entries) (payloads (entries ++ entry ∷ [])) j.doubt image (keeps.1.each image left))

  pub lawful : IsLed keeper origin trail → IsLawful origin trail
  lawful leads = record { began = leads.began; read = leads.read; holds = leads.legal }

  pub images_left : (leads : IsLed keeper origin trail) → g.tells → (image : List ℕ) → g.may_leave (disk_of keeper.journal) image
      → IsLeft (place_of keeper.journal).half origin.window leads.began trail image
  images_left leads tells = let was = leads.images tells in left_images origin.window leads.began was.0 was.1 was.2

  pub keeping : (most turns : ℕ) → IsLed keeper origin trail → length trail ≤ most
      → IsKeeping g (seen_as keeper trail most turns origin)
  keeping most turns leads within = record {
    began = leads.began;
    read = leads.read;
    holds = record {
      legal = leads.legal;
      within = within;
      in_range = leads.knows.in_range;
      place = leads.place;
      faults = leads.faults;
      told = told_up_to origin.window (start origin leads.began) trail (g.faults (disk_of keeper.journal)) leads.legal leads.faults;
      images = images_left leads;
    };
  }

-- a history begins
pub begins : {D : Type 0} {g : Ghosts D} (keeper : Keeper D g) (origin : Origin) (entries : List Entry) → AreEntries origin.pieces.value.items entries → Knows keeper entries
    → (g.tells → Keeps keeper entries None) → keeper.ledger.window.limit ≡ origin.window → place_of keeper.journal ≡ place_at origin.journal
    → origin.faults ≤ g.faults (disk_of keeper.journal) → IsLed keeper origin []
begins keeper origin entries read knows keeps window place faults = record {
  began = entries;
  read = read;
  legal = tt;
  knows = knows;
  window = window;
  place = place;
  faults = faults;
  images = λ tells. (None, keeps tells, tt);
}

-- a call that isn't answered
pub leaves_all : {D : Type 0} {g : Ghosts D} (keeper : Keeper D g) (origin : Origin) (trail : List Member) (call : Call) (most turns turns' : ℕ) → IsLed keeper origin trail → Leaves g
    (seen_as keeper trail most turns origin)
    (seen_as keeper trail most turns' origin)
    call reply.RunFull
leaves_all keeper origin trail call most turns turns' leads = record {
  began = leads.began;
  read = leads.read;
  holds = record {
    moments = λ tells. inl refl;
    kept = λ tells is. absurd (true≢false (sym is));
    failed = λ faults is. absurd (cc);
    untouched = λ not other. (refl, refl, refl);
  };
}

-- a call that is answered becomes the last of the history
pub answers : {D : Type 0} {g : Ghosts D} (old new : Keeper D g) (origin : Origin) (trail : List Member) (call : Call) (given : Reply) (most turns turns' : ℕ)
    → IsAnswered old new call given → IsLed old origin trail → (given ≡ reply.RunFull → ⊥) → (is_acceptance given ≡ true → doubts new.journal ≡ false) → length trail < most
    → Answers g (seen_as old trail most turns origin) call given (seen_as new (trail ++ (call, given) ∷ []) most turns' origin)
answers {g = g} old new origin trail call given most turns turns' did led not settled below =
    let more = trail ++ (call, given) ∷ [] in
    let on : IsLed {g = g} new origin more = goes_on old new origin trail call given did led in
    record {
      origin = refl;
      limit = refl;
      settled = settled;
      trail = subst (λ (b : Bool). Adds b most call given trail more) (sym (not_full given not)) (refl, λ full. absurd (omega (arith, full, below)));
      lawful = lawful new origin more on;
      leaves = leaves old new origin trail call given did led most turns turns';
      keeps = keeping new origin more most turns' on (omega (arith, below, length-append trail ((call, given) ∷ [])));
    }

-- a call that finds the run full leaves all as it is
pub run_full : {D : Type 0} {g : Ghosts D} (keeper : Keeper D g) (origin : Origin) (trail : List Member) (call : Call) (most turns turns' : ℕ)
    → IsLed keeper origin trail → length trail ≡ most
    → Answers g (seen_as keeper trail most turns origin) call reply.RunFull (seen_as keeper trail most turns' origin)
run_full keeper origin trail call most turns turns' led full = record {
  origin = refl;
  limit = refl;
  trail = (refl, full);
  settled = λ is. absurd (true≢false (sym is));
  lawful = lawful keeper origin trail led;
  leaves = leaves_all keeper origin trail call most turns turns' led;
  keeps = keeping keeper origin trail most turns' led (omega (arith, full));
}

-- one acceptance more, or none
pub acceptances_push : (ms : List Member) (m : Member) → acceptances (ms ++ m ∷ []) ≡ acceptances ms + cond (is_acceptance m.1) 1 0
acceptances_push ms m = sum_by_push (λ (x : Member). cond (is_acceptance x.1) 1 0) ms m

pub acceptances_within : (ms : List Member) → acceptances ms ≤ length ms
acceptances_within ms = count_by-le-length (λ (m : Member). is_acceptance m.1) ms

pub accepted_more : (ms : List Member) (m : Member) (was now : ℕ) → was ≡ acceptances ms → now ≡ was + cond (is_acceptance m.1) 1 0 → now ≡ acceptances (ms ++ m ∷ [])
accepted_more ms m was now held is = is ∙ ap (λ (n : ℕ). n + cond (is_acceptance m.1) 1 0) held ∙ sym (acceptances_push ms m)
