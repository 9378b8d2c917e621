-- What a keeper did for a call, said over the lists that it knows.
use Rattle.std.proofs.Common.{◌≡◌, ◌⊎◌, ◌<◌, ◌≤◌, ℕ, true, false, true≢false, inl, inr, List, [], ◌∷◌, ◌++◌, All, Option, Some, None, refl, sym, ap, ◌∙◌, subst, arith, Bool, nat_lt}
use Rattle.std.proofs.lemmas.List.Elements.{All-push}
use Rattle.std.proofs.lemmas.Bool.{cond-true, cond-false}
use Rattle.lti_outside.specs.DiskMoments.{LeavesOnly}
use Rattle.lti_outside.specs.Faults.{Rose}
use Rattle.lti_outside.specs.declared.disk.Disk.{Ghosts}
use Rattle.std.proofs.lemmas.Bool.Decides.{nat_tests}
use Rattle.gate_journal.specs.Half.{Place, free_of}
use Rattle.gate_journal.specs.Journal.{disk_of, place_of}
use Rattle.gate_journal.specs.declared.journal.Journal.{Journal}
use Rattle.lti_machine.specs.EntryBytes.{entry_text, length_of, IsBounded, IsInRange}
use Rattle.lti_machine.specs.Rules.{decide, entry_of, now_of, after, is_acceptance}
use Rattle.lti_machine.specs.Sound.{IsSound}
use Rattle.lti_machine.proofs.BoundLemmas.{accepted_bounded, all_bounded}
use Rattle.lti_machine.proofs.PlainLemmas.{kind, decided_is_plain}
use Rattle.lti_machine.specs.declared.call.Call.{Call}
use Rattle.lti_machine.specs.declared.entry.Entry.{Entry}
use Rattle.lti_machine.specs.declared.reply.Reply.{Reply}
use Rattle.lti_machine.specs.declared.reply.Reply.TheVariants as reply
use Rattle.lti_desk.specs.Keeping.{IsKept, IsOneOf, IsInDoubtAfter}
use Rattle.lti_desk.specs.Keeping.IsInDoubtAfter.{old_doubt, new_doubt, no_doubt}
use Rattle.lti_desk.specs.Ledger.{Holds}
use Rattle.lti_desk.specs.Legal.{IsReplied, entry_at, is_full, place_after, next}
use Rattle.lti_desk.specs.Keeper.{Knows, Keeps, IsOneOfLists, IsDoubtAfter, IsAnswered, payloads, doubtful}
use Rattle.lti_desk.specs.Keeper.IsDoubtAfter.{old_doubt as old_entry, new_doubt as new_entry, no_doubt as no_entry}
use Rattle.lti_desk.specs.Legal.IsReplied.{refused as is_refused, too_long as is_too_long, no_memory as is_no_memory, disk_fault as is_disk_fault, accepted as is_accepted}
use Rattle.lti_desk.specs.Responding.{Responds, Decision, entry_by}
use Rattle.lti_desk.specs.Responding.Responds.{refused, full, no_memory, disk_fault, accepted}
use Rattle.lti_desk.specs.declared.keeper.Keeper.{Keeper}
use Rattle.lti_desk.specs.declared.ledger.Ledger.{Ledger}
use Rattle.lti_desk.proofs.HeldLemmas.{ledger_held}

-- the count of faults that a reply tells, or 0
abbrev told_by : Reply → ℕ
told_by (reply.DiskFault faults) = faults
told_by _ = 0

payloads_push : (entries : List Entry) (entry : Entry) → payloads (entries ++ entry ∷ []) ≡ payloads entries ++ entry_text entry ∷ []
payloads_push [] entry = refl
payloads_push (e ∷ es) entry = ap (λ (l : List (List ℕ)). entry_text e ∷ l) (payloads_push es entry)

module _ {D : Type 0} {g : Ghosts D} (old new : Keeper D g) (call : Call) where
  abbrev decided : List Entry → Reply
  decided entries = decide entries call old.ledger.window.limit

  abbrev entry_here : List Entry → Entry
  entry_here entries = entry_at old.ledger.window.limit entries call

  same_entry : (d : Decision old.ledger call) (entries : List Entry) → Holds old.ledger entries → entry_by d ≡ entry_here entries
  same_entry d entries holds = λ i. entry_of call (d.reply_is entries holds i) (d.now_is entries holds i)

  abbrev here : Place
  here = place_of old.journal

  full_here : (d : Decision old.ledger call) (entries : List Entry) → Holds old.ledger entries → free_of here < length_of (entry_by d) → is_full here entries (entry_here entries) ≡ true
  full_here d entries holds more =
      subst (λ (e : Entry). nat_lt (free_of here) (length_of e) ≡ true) (same_entry d entries holds) (grind (arith, nat_tests))

  fits_here : (d : Decision old.ledger call) (entries : List Entry) → Holds old.ledger entries → length_of (entry_by d) ≤ free_of here → is_full here entries (entry_here entries) ≡ false
  fits_here d entries holds fits =
      subst (λ (e : Entry). nat_lt (free_of here) (length_of e) ≡ false) (same_entry d entries holds) (grind (arith, nat_tests))

  agreed_here : (d : Decision old.ledger call) (entries : List Entry) → Holds old.ledger entries → (b : Bool) → is_acceptance d.reply ≡ b → is_acceptance (decided entries) ≡ b
  agreed_here d entries holds b is = ap is_acceptance (sym (d.reply_is entries holds)) ∙ is

  pub replied : (given : Reply) → Responds old new call given → (entries : List Entry) → Knows old entries
      → IsReplied (decided entries) (is_full here entries (entry_here entries)) (free_of here) (g.faults (disk_of old.journal)) given
  replied given (refused d n is l j) entries knows = is_refused (agreed_here d entries knows.holds false n) (is ∙ d.reply_is entries knows.holds)
  replied given (full d agreed more is l j) entries knows = is_too_long (agreed_here d entries knows.holds true agreed) (full_here d entries knows.holds more) is
  replied given (no_memory d agreed fits is l j) entries knows = is_no_memory (agreed_here d entries knows.holds true agreed) (fits_here d entries knows.holds fits) is
  replied given (disk_fault d agreed fits is l rose p m t) entries knows =
      is_disk_fault (agreed_here d entries knows.holds true agreed) (fits_here d entries knows.holds fits) (g.faults (disk_of new.journal)) rose is
  replied given (accepted d agreed fits is adds p f ranged m k) entries knows =
      is_accepted (agreed_here d entries knows.holds true agreed) (fits_here d entries knows.holds fits) (is ∙ d.reply_is entries knows.holds)

  pub counted : (given : Reply) → Responds old new call given → g.faults (disk_of old.journal) ≤ g.faults (disk_of new.journal)
  counted given (refused d n is l j) = rw j (omega arith)
  counted given (full d agreed more is l j) = rw j (omega arith)
  counted given (no_memory d agreed fits is l j) = rw j (omega arith)
  counted given (disk_fault d agreed fits is l rose p m t) = rose.later
  counted given (accepted d agreed fits is adds p f ranged m k) = rw f (omega arith)

  unchanged : (given : Reply) (entries : List Entry) → is_acceptance given ≡ false → after entries call given ≡ entries
  unchanged given entries n = cond-false (is_acceptance given) (entries ++ entry_of call given (now_of entries call) ∷ []) entries n

  knows_same : (given : Reply) (entries : List Entry) → is_acceptance given ≡ false → Holds new.ledger entries → All IsInRange entries → Knows new (after entries call given)
  knows_same given entries n holds in_range = subst (λ (es : List Entry). Knows new es) (sym (unchanged given entries n)) (record { holds = holds; in_range = in_range })

  pub known : (given : Reply) → Responds old new call given → IsSound call → (entries : List Entry) → Knows old entries → Knows new (after entries call given)
  known given (refused d n is l j) sound entries knows =
      knows_same given entries (ap is_acceptance is ∙ n) (subst (λ (w : Ledger). Holds w entries) (sym l) knows.holds) knows.in_range
  known given (full d agreed more is l j) sound entries knows =
      knows_same given entries (ap is_acceptance is) (subst (λ (w : Ledger). Holds w entries) (sym l) knows.holds) knows.in_range
  known given (no_memory d agreed fits is l j) sound entries knows =
      knows_same given entries (ap is_acceptance is) (ledger_held old.ledger new.ledger entries l knows.holds) knows.in_range
  known given (disk_fault d agreed fits is l rose p m t) sound entries knows =
      knows_same given entries (ap is_acceptance is) (ledger_held old.ledger new.ledger entries l knows.holds) knows.in_range
  known given (accepted d agreed fits is adds p f ranged m k) sound entries knows =
      let entry = entry_of call given (now_of entries call) in
      let same : entry_by d ≡ entry = λ i. entry_of call (sym is i) (d.now_is entries knows.holds i) in
      subst (λ (es : List Entry). Knows new es) (sym (cond-true (is_acceptance given) (entries ++ entry ∷ []) entries (ap is_acceptance is ∙ agreed)))
      (record {
        holds = subst (λ (e : Entry). Holds new.ledger (entries ++ e ∷ [])) same (adds entries knows.holds);
        in_range = All-push IsInRange entries entry knows.in_range
            (subst IsInRange same (ranged (subst IsBounded (sym same) (accepted_bounded entries call given (all_bounded entries knows.in_range) sound))));
      })

  pub moments : (given : Reply) → Responds old new call given → (entries : List Entry) (doubt : Option Entry) → Knows old entries → Keeps old entries doubt
      → (new.journal ≡ old.journal) ⊎ LeavesOnly g (disk_of old.journal) (disk_of new.journal) (IsOneOfLists (place_of old.journal).half entries doubt (entry_here entries))
  moments given (refused d n is l j) entries doubt knows keeps = inl j
  moments given (full d agreed more is l j) entries doubt knows keeps = inl j
  moments given (no_memory d agreed fits is l j) entries doubt knows keeps = inl j
  moments given (disk_fault d agreed fits is l rose p m t) entries doubt knows keeps =
      inr (subst (λ (p : List (List ℕ)). LeavesOnly g (disk_of old.journal) (disk_of new.journal) (IsOneOf (place_of old.journal).half (payloads entries) (doubtful entries doubt) p))
      (sym (payloads_push entries (entry_by d)) ∙ ap (λ (e : Entry). payloads (entries ++ e ∷ [])) (same_entry d entries knows.holds))
      (m (payloads entries) (doubtful entries doubt) keeps))
  moments given (accepted d agreed fits is adds p f ranged m k) entries doubt knows keeps =
      inr (subst (λ (p : List (List ℕ)). LeavesOnly g (disk_of old.journal) (disk_of new.journal) (IsOneOf (place_of old.journal).half (payloads entries) (doubtful entries doubt) p))
      (sym (payloads_push entries (entry_by d)) ∙ ap (λ (e : Entry). payloads (entries ++ e ∷ [])) (same_entry d entries knows.holds))
      (m (payloads entries) (doubtful entries doubt) keeps))

  pub kept : (given : Reply) → Responds old new call given → is_acceptance given ≡ true → (entries : List Entry) (doubt : Option Entry) → Knows old entries → Keeps old entries doubt
      → Keeps new (after entries call given) None
  kept given (refused d n is l j) agreed entries doubt knows keeps = absurd (true≢false (sym agreed ∙ ap is_acceptance is ∙ n))
  kept given (full d y more is l j) agreed entries doubt knows keeps = absurd (true≢false (sym agreed ∙ ap is_acceptance is))
  kept given (no_memory d y fits is l j) agreed entries doubt knows keeps = absurd (true≢false (sym agreed ∙ ap is_acceptance is))
  kept given (disk_fault d y fits is l rose p m t) agreed entries doubt knows keeps = absurd (true≢false (sym agreed ∙ ap is_acceptance is))
  kept given (accepted d y fits is adds p f ranged m k) agreed entries doubt knows keeps =
      let entry = entry_of call given (now_of entries call) in
      let same : entry_by d ≡ entry = λ i. entry_of call (sym is i) (d.now_is entries knows.holds i) in
      subst (λ (p : List (List ℕ)). IsKept {g = g} new.journal p None)
      (sym (payloads_push entries (entry_by d)) ∙ ap (λ (e : Entry). payloads (entries ++ e ∷ [])) same
      ∙ ap payloads (sym (cond-true (is_acceptance given) (entries ++ entry ∷ []) entries agreed)))
      (k (payloads entries) (doubtful entries doubt) keeps)

  -- what is in doubt, as entries
  as_entries : (entries : List Entry) (doubt : Option Entry) (entry : Entry) (x : Option (List (List ℕ))) → IsKept {g = g} new.journal (payloads entries) x
      → IsInDoubtAfter (doubtful entries doubt) (payloads entries ++ entry_text entry ∷ []) x → (later : Option Entry) × Keeps new entries later × IsDoubtAfter doubt entry later
  as_entries entries doubt entry x keeps (old_doubt is) = (doubt, subst (λ (o : Option (List (List ℕ))). IsKept {g = g} new.journal (payloads entries) o) is keeps, old_entry refl)
  as_entries entries doubt entry x keeps (new_doubt is) =
      (Some entry, subst (λ (o : Option (List (List ℕ))). IsKept {g = g} new.journal (payloads entries) o) (is ∙ ap (λ (p : List (List ℕ)). Some p) (sym (payloads_push entries entry))) keeps, new_entry refl)
  as_entries entries doubt entry x keeps (no_doubt is) = (None, subst (λ (o : Option (List (List ℕ))). IsKept {g = g} new.journal (payloads entries) o) is keeps, no_entry refl)

  by_rule : (entries : List Entry) (d : Decision old.ledger call) (given : Reply) → Holds old.ledger entries → given ≡ d.reply → kind given ≡ 0
  by_rule entries d given holds is = ap kind (is ∙ d.reply_is entries holds) ∙ decided_is_plain entries call old.ledger.window.limit

  pub in_doubt_after : (given : Reply) → Responds old new call given → (faults : ℕ) → given ≡ reply.DiskFault faults → (entries : List Entry) (doubt : Option Entry) → Knows old entries → Keeps old entries doubt
      → (later : Option Entry) × Keeps new entries later × IsDoubtAfter doubt (entry_here entries) later
  in_doubt_after given (refused d n is l j) faults fault entries doubt knows keeps = absurd (omega (arith, ap kind fault, by_rule entries d given knows.holds is))
  in_doubt_after given (full d agreed more is l j) faults fault entries doubt knows keeps = absurd (omega (arith, ap kind (sym is ∙ fault)))
  in_doubt_after given (no_memory d agreed fits is l j) faults fault entries doubt knows keeps = absurd (omega (arith, ap kind (sym is ∙ fault)))
  in_doubt_after given (disk_fault d agreed fits is l rose p m t) faults fault entries doubt knows keeps =
      let found = t (payloads entries) (doubtful entries doubt) keeps in
      subst (λ (e : Entry). (later : Option Entry) × Keeps new entries later × IsDoubtAfter doubt e later) (same_entry d entries knows.holds)
      (as_entries entries doubt (entry_by d) found.0 found.1 found.2)
  in_doubt_after given (accepted d agreed fits is adds p f ranged m k) faults fault entries doubt knows keeps = absurd (omega (arith, ap kind fault, by_rule entries d given knows.holds is))

  pub untouched : (given : Reply) → Responds old new call given → is_acceptance given ≡ false → ((faults : ℕ) → given ≡ reply.DiskFault faults → ⊥) → new.journal ≡ old.journal
  untouched given (refused d n is l j) not other = j
  untouched given (full d agreed more is l j) not other = j
  untouched given (no_memory d agreed fits is l j) not other = j
  untouched given (disk_fault d agreed fits is l rose p m t) not other = absurd (other _ is)
  untouched given (accepted d agreed fits is adds p f ranged m k) not other = absurd (true≢false (sym (ap is_acceptance is ∙ agreed) ∙ not))

  -- no call that was answered is told that the run is full
  pub not_run_full : (given : Reply) → Responds old new call given → (entries : List Entry) → Knows old entries → given ≡ reply.RunFull → ⊥
  not_run_full given (refused d n is l j) entries knows run = absurd (omega (arith, ap kind run, by_rule entries d given knows.holds is))
  not_run_full given (full d agreed more is l j) entries knows run = absurd (omega (arith, ap kind (sym is ∙ run)))
  not_run_full given (no_memory d agreed fits is l j) entries knows run = absurd (omega (arith, ap kind (sym is ∙ run)))
  not_run_full given (disk_fault d agreed fits is l rose p m t) entries knows run = absurd (omega (arith, ap kind (sym is ∙ run)))
  not_run_full given (accepted d agreed fits is adds p f ranged m k) entries knows run = absurd (omega (arith, ap kind run, by_rule entries d given knows.holds is))

  stays : (given : Reply) (entries : List Entry) → is_acceptance given ≡ false → place_of new.journal ≡ place_of old.journal → place_of new.journal ≡ place_after (place_of old.journal) entries call given
  stays given entries n same = same ∙ sym (cond-false (is_acceptance given) (next here entries (entry_of call given (now_of entries call))) here n)

  pub placed : (given : Reply) → Responds old new call given → (entries : List Entry) → Knows old entries
      → place_of new.journal ≡ place_after (place_of old.journal) entries call given
  placed given (refused d n is l j) entries knows = stays given entries (ap is_acceptance is ∙ n) (ap (λ (w : Journal D g). place_of w) j)
  placed given (full d agreed more is l j) entries knows = stays given entries (ap is_acceptance is) (ap (λ (w : Journal D g). place_of w) j)
  placed given (no_memory d agreed fits is l j) entries knows = stays given entries (ap is_acceptance is) (ap (λ (w : Journal D g). place_of w) j)
  placed given (disk_fault d agreed fits is l rose p m t) entries knows = stays given entries (ap is_acceptance is) p
  placed given (accepted d agreed fits is adds p f ranged m k) entries knows =
      let same : entry_by d ≡ entry_of call given (now_of entries call) = λ i. entry_of call (sym is i) (d.now_is entries knows.holds i) in
      p ∙ ap (λ (e : Entry). next here entries e) same
      ∙ sym (cond-true (is_acceptance given) (next here entries (entry_of call given (now_of entries call))) here (ap is_acceptance is ∙ agreed))

  -- a count that is told is the disk's
  pub told : (given : Reply) → Responds old new call given → (entries : List Entry) → Knows old entries → (faults : ℕ) → given ≡ reply.DiskFault faults
      → (faults ≡ g.faults (disk_of new.journal)) × Rose (g.faults (disk_of old.journal)) (g.faults (disk_of new.journal))
  told given (refused d n is l j) entries knows faults fault = absurd (omega (arith, ap kind fault, by_rule entries d given knows.holds is))
  told given (full d agreed more is l j) entries knows faults fault = absurd (omega (arith, ap kind (sym is ∙ fault)))
  told given (no_memory d agreed fits is l j) entries knows faults fault = absurd (omega (arith, ap kind (sym is ∙ fault)))
  told given (disk_fault d agreed fits is l rose p m t) entries knows faults fault = (ap told_by (sym fault ∙ is), rose)
  told given (accepted d agreed fits is adds p f ranged m k) entries knows faults fault = absurd (omega (arith, ap kind fault, by_rule entries d given knows.holds is))

  pub answered : (given : Reply) → Responds old new call given → IsSound call → new.ledger.window.limit ≡ old.ledger.window.limit → IsAnswered old new call given
  answered given did sound limit = record {
    replied = replied given did;
    failed = λ entries. told given did entries;
    counted = counted given did;
    known = known given did sound;
    limit = limit;
    place = placed given did;
    moments = moments given did;
    kept = kept given did;
    doubt = in_doubt_after given did;
    untouched = untouched given did;
  }
