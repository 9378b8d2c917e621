-- What a history of calls and replies may be, by what stood when it began.
use Rattle.std.specs.Prelude.{◌≡◌, ℕ, ◌≤◌, count_by, Bool, true, false, nat_lt, List, [], ◌∷◌, length, ⊤, if◌then◌else◌}
use Rattle.lti_outside.specs.Faults.{Rose}
use Rattle.gate_journal.specs.Half.{Place, free_of, next_place}
use Rattle.lti_machine.specs.History.{Member}
use Rattle.lti_machine.specs.EntryBytes.{entry_text, length_of}
use Rattle.lti_machine.specs.Rules.{decide, after, entry_of, now_of, is_acceptance}
use Rattle.lti_machine.specs.declared.call.Call.{Call}
use Rattle.lti_machine.specs.declared.entry.Entry.{Entry}
use Rattle.lti_machine.specs.declared.reply.Reply.{Reply}
use Rattle.lti_machine.specs.declared.reply.Reply.TheVariants.{JournalFull, DiskFault, NoMemory}

-- the entry of a call, were it accepted
abbrev pub entry_at : ℕ → List Entry → Call → Entry
entry_at window entries call = entry_of call (decide entries call window) (now_of entries call)

-- the entry has more bytes than are free
abbrev pub is_full : Place → List Entry → Entry → Bool
is_full place entries entry = nat_lt (free_of place) (length_of entry)

-- where the journal stands after it took the entry
abbrev pub next : Place → List Entry → Entry → Place
next place entries entry = next_place place (length (entry_text entry))

-- The reply to a call, by the one that is decided over the list, whether its entry is too long for the journal, how
-- many bytes are free, and the count of faults before.
pub data IsReplied (decided : Reply) (full : Bool) (free before : ℕ) (given : Reply) : Type 0 where
  refused : is_acceptance decided ≡ false → given ≡ decided → IsReplied decided full free before given
  too_long : is_acceptance decided ≡ true → full ≡ true → given ≡ JournalFull free → IsReplied decided full free before given
  accepted : is_acceptance decided ≡ true → full ≡ false → given ≡ decided → IsReplied decided full free before given
  no_memory : is_acceptance decided ≡ true → full ≡ false → given ≡ NoMemory → IsReplied decided full free before given
  disk_fault : is_acceptance decided ≡ true → full ≡ false → (faults : ℕ) → Rose before faults → given ≡ DiskFault faults → IsReplied decided full free before given

-- where a history stands: the journal, the accepted entries, and the count of faults that was told last
pub record Point : Type 0 where
  pub place : Place
  pub entries : List Entry
  pub faults : ℕ

-- the count that the reply tells, or the one before
abbrev pub faults_after : ℕ → Reply → ℕ
faults_after faults (DiskFault told) = told
faults_after faults _ = faults

-- the journal after a call and its reply: it took the entry exactly where the call was accepted
abbrev pub place_after : Place → List Entry → Call → Reply → Place
place_after place entries call given =
    if is_acceptance given then next place entries (entry_of call given (now_of entries call)) else place

-- one member on
abbrev pub step : Point → Member → Point
step p m = record { place = place_after p.place p.entries m.0 m.1; entries = after p.entries m.0 m.1; faults = faults_after p.faults m.1 }

-- how many calls of a history were accepted
abbrev pub acceptances : List Member → ℕ
acceptances trail = count_by (λ m. is_acceptance m.1) trail

-- the number of a fault of the disk, if the reply tells one, is at most this
abbrev pub TellsAtMost : ℕ → Reply → Type 0
TellsAtMost most given = (faults : ℕ) → given ≡ DiskFault faults → faults ≤ most

abbrev pub reach : Point → List Member → Point
reach p [] = p
reach p (m ∷ ms) = reach (step p m) ms

-- the reply that a member has may be given at this point
abbrev pub IsMember : ℕ → Point → Member → Type 0
IsMember window p m =
    IsReplied (decide p.entries m.0 window) (is_full p.place p.entries (entry_at window p.entries m.0)) (free_of p.place) p.faults m.1

-- each reply may be given at its point
abbrev pub Legal : ℕ → Point → List Member → Type 0
Legal window p [] = ⊤
Legal window p (m ∷ ms) = IsMember window p m × Legal window (step p m) ms
