-- What a keeper answers, and what a crash leaves of it.
use Rattle.std.specs.Prelude.{◌≡◌, ◌⊎◌, ℕ, ◌≤◌, true, false, List, [], ◌∷◌, ◌++◌, map, All, Option, Some, None}
use Rattle.std.specs.Option.{option_map}
use Rattle.lti_outside.specs.DiskMoments.{LeavesOnly}
use Rattle.lti_outside.specs.Faults.{Rose}
use Rattle.lti_outside.specs.declared.disk.Disk.{Ghosts}
use Rattle.lti_machine.specs.EntryBytes.{entry_text, IsInRange}
use Rattle.gate_journal.specs.Half.{free_of}
use Rattle.gate_journal.specs.Journal.{disk_of, place_of}
use Rattle.lti_machine.specs.Rules.{decide, after, is_acceptance}
use Rattle.lti_machine.specs.declared.call.Call.{Call}
use Rattle.lti_machine.specs.declared.entry.Entry.{Entry}
use Rattle.lti_machine.specs.declared.reply.Reply.{Reply}
use Rattle.lti_machine.specs.declared.reply.Reply.TheVariants.{DiskFault}
use Rattle.lti_desk.specs.Keeping.{IsKept, IsOneOf}
use Rattle.lti_desk.specs.Ledger.{Holds}
use Rattle.lti_desk.specs.Legal.{entry_at, is_full, place_after, IsReplied}
use Rattle.lti_desk.specs.declared.keeper.Keeper.{Keeper}

-- the payloads in which entries are kept
abbrev pub payloads : List Entry → List (List ℕ)
payloads entries = map entry_text entries

-- the list with the entry in doubt behind it, if one is
abbrev pub doubtful : List Entry → Option Entry → Option (List (List ℕ))
doubtful entries doubt = option_map (λ d. payloads (entries ++ d ∷ [])) doubt

-- it answers over this list, whose entries can be kept and read again
pub record Knows {D : Type 0} {g : Ghosts D} (keeper : Keeper D g) (entries : List Entry) : Type 0 where
  pub holds : Holds keeper.ledger entries
  pub in_range : All IsInRange entries

-- each image of its disk stands for this list; where an entry is in doubt, it stands for the list or for the list
-- with that one
abbrev pub Keeps : {D : Type 0} {g : Ghosts D} → Keeper D g → List Entry → Option Entry → Type 0
Keeps keeper entries doubt = IsKept keeper.journal (payloads entries) (doubtful entries doubt)

-- the image stands for the list, for the list with the entry in doubt, or for the list with the new one
abbrev pub IsOneOfLists : ℕ → List Entry → Option Entry → Entry → List ℕ → Type 0
IsOneOfLists half entries doubt entry image = IsOneOf half (payloads entries) (doubtful entries doubt) (payloads (entries ++ entry ∷ [])) image

-- What is in doubt after a fault: what was before, the new entry, or nothing.
pub data IsDoubtAfter (before : Option Entry) (entry : Entry) (after : Option Entry) : Type 0 where
  old_doubt : after ≡ before → IsDoubtAfter before entry after
  new_doubt : after ≡ Some entry → IsDoubtAfter before entry after
  no_doubt : after ≡ None → IsDoubtAfter before entry after

-- What one answer of a keeper does, over each list that it knows.
pub record IsAnswered {D : Type 0} {g : Ghosts D} (old new : Keeper D g) (call : Call) (given : Reply) : Type 0 where
  -- the reply has its cause, and tells the count of the disk's faults as it is then
  pub replied : (entries : List Entry) → Knows old entries
      → IsReplied (decide entries call old.ledger.window.limit) (is_full (place_of old.journal) entries (entry_at old.ledger.window.limit entries call))
      (free_of (place_of old.journal)) (g.faults (disk_of old.journal)) given
  pub failed : (entries : List Entry) → Knows old entries → (faults : ℕ) → given ≡ DiskFault faults
      → (faults ≡ g.faults (disk_of new.journal)) × Rose (g.faults (disk_of old.journal)) (g.faults (disk_of new.journal))
  pub counted : g.faults (disk_of old.journal) ≤ g.faults (disk_of new.journal)
  -- it goes on over the list that the rules make of the call and its reply, and so does the journal
  pub known : (entries : List Entry) → Knows old entries → Knows new (after entries call given)
  pub limit : new.ledger.window.limit ≡ old.ledger.window.limit
  pub place : (entries : List Entry) → Knows old entries → place_of new.journal ≡ place_after (place_of old.journal) entries call given
  -- at each moment of the call a crash leaves the list, the list with the entry in doubt, or the list with the entry
  -- of this call; or no call of the disk was made
  pub moments : (entries : List Entry) (doubt : Option Entry) → Knows old entries → Keeps old entries doubt
      → (new.journal ≡ old.journal) ⊎ LeavesOnly g (disk_of old.journal) (disk_of new.journal)
      (IsOneOfLists (place_of old.journal).half entries doubt (entry_at old.ledger.window.limit entries call))
  -- after an acceptance it leaves the list with the entry, and nothing is in doubt
  pub kept : is_acceptance given ≡ true → (entries : List Entry) (doubt : Option Entry) → Knows old entries → Keeps old entries doubt
      → Keeps new (after entries call given) None
  -- after a fault of the disk it leaves the list; the entry that was in doubt may still be, or that of this call, or
  -- none is
  pub doubt : (faults : ℕ) → given ≡ DiskFault faults → (entries : List Entry) (doubt : Option Entry) → Knows old entries → Keeps old entries doubt
      → (later : Option Entry) × Keeps new entries later × IsDoubtAfter doubt (entry_at old.ledger.window.limit entries call) later
  -- after any other reply no call of the disk was made
  pub untouched : is_acceptance given ≡ false → ((faults : ℕ) → given ≡ DiskFault faults → ⊥) → new.journal ≡ old.journal
