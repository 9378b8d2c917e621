-- What holds of all lists of entries: why nonces may be forgotten, and how many are kept.
use Rattle.std.specs.Prelude.{◌≡◌, ◌≤◌, ℕ, max, Bool, true, false, List, [], ◌∷◌, ◌++◌, length, filter}
use Rattle.std.specs.List.{list_any}
use Rattle.lti_machine.specs.declared.entry.Entry.{Entry}
use Rattle.lti_machine.specs.declared.verdict.Verdict.TheVariants.{New}
use Rattle.lti_machine.specs.Nonces.{Stamp, stamp_of, same_stamp, is_signed, is_inside, is_live, live, stands, verdict}
use Rattle.lti_machine.specs.Rules.{high}
use Rattle.lti_machine.specs.Used.{used}
use Rattle.lti_machine.specs.Summary.{summary}
use Rattle.nonce_window.specs.Window.{WindowValue, Holds}
use Rattle.nonce_window.specs.Words.{Counts}

-- a stamp that stands in the list and isn't live at a moment is outside then and at every later moment
abbrev pub ForgottenStaysOutside : Type 0
ForgottenStaysOutside =
    (entries : List Entry) (key : List ℕ) (stamp : Stamp) (now later : ℕ) → stands entries key stamp ≡ true
    → list_any (same_stamp stamp) (live entries key now) ≡ false → now ≤ later → is_inside stamp.timestamp later ≡ false

-- what keeps at least the entries that are live at a moment gives the verdicts of the whole list, then and later
abbrev pub ForgettingChangesNoVerdict : Type 0
ForgettingChangesNoVerdict =
    (entries : List Entry) (keeps : Entry → Bool) (now : ℕ)
    → ((entry : Entry) → is_live entry.key now entry ≡ true → keeps entry ≡ true)
    → (key : List ℕ) (stamp : Stamp) (later limit : ℕ) → now ≤ later
    → verdict (filter keeps entries) key stamp later limit ≡ verdict entries key stamp later limit

-- a window that holds a list holds it with one more entry that has no nonce
abbrev pub UnsignedIsHeld : Type 0
UnsignedIsHeld =
    (window : WindowValue) (entries : List Entry) (entry : Entry) → is_signed entry ≡ false → Holds window entries
    → Holds window (entries ++ entry ∷ [])

-- Each of the entries was new at its moment by the limit and the list before it. The moments begin at `high` at the
-- earliest, nowhere fall, and are at most `now`.
unfoldable pub AreAdmitted : ℕ → ℕ → ℕ → List Entry → List Entry → Type 0
AreAdmitted limit now high held [] = high ≤ now
AreAdmitted limit now high held (entry ∷ entries) =
    (high ≤ entry.moment) × (verdict held entry.key (stamp_of entry) entry.moment limit ≡ New)
    × AreAdmitted limit now entry.moment (held ++ entry ∷ []) entries

-- where nothing is loaded after the first nonce was admitted, a key has no more live stamps than the limit, or than
-- the loaded entries alone give it
abbrev pub LiveIsBounded : Type 0
LiveIsBounded =
    (limit now high : ℕ) (loaded admitted : List Entry) → AreAdmitted limit now high loaded admitted → (key : List ℕ)
    → length (live (loaded ++ admitted) key now) ≤ max limit (length (live loaded key now))

-- the same of what a window keeps
abbrev pub KeptIsBounded : Type 0
KeptIsBounded =
    (window : WindowValue) (high : ℕ) (loaded admitted : List Entry) → Holds window (loaded ++ admitted)
    → AreAdmitted window.limit window.high high loaded admitted → (key : List ℕ) (count : ℕ) → Counts window key count
    → count ≤ max window.limit (length (live loaded key window.high))

-- a window at the greatest moment or later holds each list of one summary, or none
abbrev pub HoldsAlike : Type 0
HoldsAlike = (window : WindowValue) (a b : List Entry) → summary a ≡ summary b → high a ≤ window.high → Holds window a → Holds window b

-- a window knows the nonces of all keys that aren't forgotten, now and later, of each list that it holds
abbrev pub KnowsUsed : Type 0
KnowsUsed = (window : WindowValue) (entries : List Entry) (now : ℕ) → Holds window entries → window.high ≤ now → used window.known now ≡ used entries now
