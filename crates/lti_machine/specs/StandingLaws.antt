-- How the grade of an id stands, said by the entries that decide it (LTI 1.1.1, section 6; that an id has to be issued before is
-- this project's own).
use Rattle.std.specs.Prelude.{◌≡◌, ℕ, Bool, true, false, ◌&&◌, List, ◌∷◌, ◌++◌, All, Option, None, Some, bytes_eq, if◌then◌else◌}
use Rattle.lti_machine.specs.declared.entry.Entry.{Entry}
use Rattle.lti_machine.specs.declared.entry.Effect.{Effect}
use Rattle.lti_machine.specs.declared.entry.Effect.TheVariants as effect
use Rattle.lti_machine.specs.declared.standing.Standing.{Standing}
use Rattle.lti_machine.specs.declared.standing.Standing.TheVariants.{Unknown, Empty, Scored}
use Rattle.lti_machine.specs.Standings.{standing}

abbrev pub is_issue_of : List ℕ → Effect → Bool
is_issue_of id (effect.Issued other) = bytes_eq other id
is_issue_of id _ = false

-- the entry issues this id under this key
abbrev pub issues : List ℕ → List ℕ → Entry → Bool
issues key id entry = bytes_eq entry.key key && is_issue_of id entry.effect

abbrev pub grade_in : List ℕ → Effect → Option Standing
grade_in id (effect.Grade other score) = if bytes_eq other id then Some (Scored score) else None
grade_in id (effect.Cleared other) = if bytes_eq other id then Some Empty else None
grade_in id _ = None

-- what the entry says of the grade of this id under this key: its score, that it has none, or nothing
abbrev pub grade_told : List ℕ → List ℕ → Entry → Option Standing
grade_told key id entry = if bytes_eq entry.key key then grade_in id entry.effect else None

-- no entry issues the id
abbrev pub AreNoIssues : List ℕ → List ℕ → List Entry → Type 0
AreNoIssues key id entries = All (λ e. issues key id e ≡ false) entries

-- no entry says anything of its grade
abbrev pub AreSilent : List ℕ → List ℕ → List Entry → Type 0
AreSilent key id entries = All (λ e. grade_told key id e ≡ None) entries

-- an id is unknown until it is issued
abbrev pub UnknownUntilIssued : Type 0
UnknownUntilIssued = (entries : List Entry) (key id : List ℕ) → AreNoIssues key id entries → standing entries key id ≡ Unknown

-- it has no grade as long as nothing behind its first issue says one
abbrev pub EmptyUntilGraded : Type 0
EmptyUntilGraded =
    (front behind : List Entry) (issue : Entry) (key id : List ℕ)
    → AreNoIssues key id front → issues key id issue ≡ true → AreSilent key id behind
    → standing (front ++ issue ∷ behind) key id ≡ Empty

-- and then stands as the last entry behind its first issue says
abbrev pub LastDecides : Type 0
LastDecides =
    (front between behind : List Entry) (issue last : Entry) (key id : List ℕ) (told : Standing)
    → AreNoIssues key id front → issues key id issue ≡ true → grade_told key id last ≡ Some told → AreSilent key id behind
    → standing (front ++ issue ∷ (between ++ last ∷ behind)) key id ≡ told
