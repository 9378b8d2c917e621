-- What holds of all lists of entries.
use Rattle.std.specs.Prelude.{◌≡◌, ◌↔◌, ℕ, false, List}
use Rattle.std.specs.List.{list_any}
use Rattle.lti_machine.specs.declared.entry.Entry.{Entry}
use Rattle.lti_machine.specs.declared.standing.Standing.TheVariants.{Unknown}
use Rattle.lti_machine.specs.Standings.{standing}
use Rattle.lti_machine.specs.Summary.{summary}
use Rattle.gradebook.specs.Book.{BookValue, Holds}
use Rattle.lti_machine.specs.Rows.{issued, same_owned}

-- an id is unknown under a key exactly where it isn't among the issued ids
abbrev pub UnknownIsNotIssued : Type 0
UnknownIsNotIssued =
    (entries : List Entry) (key id : List ℕ)
    → (standing entries key id ≡ Unknown) ↔ (list_any (same_owned (record { key = key; id = id })) (issued entries) ≡ false)

-- a book holds each list of one summary, or none
abbrev pub HoldsAlike : Type 0
HoldsAlike = (book : BookValue) (a b : List Entry) → summary a ≡ summary b → Holds book a → Holds book b
