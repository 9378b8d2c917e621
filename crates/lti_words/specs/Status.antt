-- How a run ends: the number of its end, which is the exit status, and the word that is printed for it (this project's own).
use Rattle.std.specs.Prelude.{◌≡◌, ℕ, List, [], codes}
use Rattle.lti_words.specs.declared.status.Status.{Status}
use Rattle.lti_words.specs.declared.status.Status.TheVariants.{Done, Usage, Settings, ReadFault, WriteFault, DiskFault, DamagedJournal, NoMemory, CutShort, JournalFull, AlreadyIssued, DoorFault, JournalTooSmall, Refused, NotSuccess, NoPlacement, UnknownKey, NotIssued}

abbrev pub number_of : Status → ℕ
number_of Done = 0
number_of Usage = 2
number_of Settings = 3
number_of ReadFault = 4
number_of WriteFault = 5
number_of DiskFault = 6
number_of DamagedJournal = 7
number_of NoMemory = 8
number_of CutShort = 9
number_of JournalFull = 10
number_of AlreadyIssued = 11
number_of DoorFault = 12
number_of JournalTooSmall = 13
number_of Refused = 14
number_of NotSuccess = 15
number_of NoPlacement = 16
number_of UnknownKey = 17
number_of NotIssued = 18

abbrev pub word_of : Status → List ℕ
word_of Done = []
word_of Usage = codes "usage"
word_of Settings = codes "settings"
word_of ReadFault = codes "read fault"
word_of WriteFault = codes "write fault"
word_of DiskFault = codes "disk fault"
word_of DamagedJournal = codes "damaged journal"
word_of NoMemory = codes "want of memory"
word_of CutShort = codes "cut short"
word_of JournalFull = codes "journal full"
word_of AlreadyIssued = codes "already issued"
word_of DoorFault = codes "door fault"
word_of JournalTooSmall = codes "journal too small"
word_of Refused = codes "refused message"
word_of NotSuccess = codes "not a success"
word_of NoPlacement = codes "no such placement"
word_of UnknownKey = codes "unknown key"
word_of NotIssued = codes "not issued"

-- the number is that of some end
abbrev pub IsNumber : ℕ → Type 0
IsNumber number = (status : Status) × (number ≡ number_of status)
