-- From why a command wasn't begun to its rung, and from a book to the entries that it holds.
use Rattle.std.proofs.Common.{◌≡◌, true, refl, sym, subst, List, ℕ, Option, Some}
use Rattle.lti_outside.specs.declared.disk.Disk.{Ghosts}
use Rattle.lti_outside.specs.declared.limits.Limits.{Limits}
use Rattle.gradebook.specs.Book.{BookValue, Holds}
use Rattle.lti_machine.specs.History.{Member, after_all}
use Rattle.lti_machine.specs.declared.entry.Entry.{Entry}
use Rattle.lti_desk.specs.Mounting.{IsMounted, IsOver}
use Rattle.lti_desk.specs.Office.{OfficeValue}
use Rattle.lti_words.specs.Command.{CommandValue, uses_settings}
use Rattle.lti_words.specs.declared.status.Status.{Status}
use Rattle.lti_settings.specs.declared.settings.Settings.{Settings}
use Rattle.lti_operator.specs.Ladder.{Passage, Reads, IsUntouched, Ladder}
use Rattle.lti_operator.specs.Ladder.Ladder.{no_settings as settings_rung, no_journal as journal_rung}
use Rattle.lti_operator.specs.Opening.{Unopens}
use Rattle.lti_operator.specs.Opening.Unopens.{no_settings, no_journal}

module _ {D : Type 0} (g : Ghosts D) (limits : Limits) (command : CommandValue) (p : Passage D)
    (Own : Passage D → Option Settings → List ℕ → OfficeValue D → Status → Type 0) (status : Status) where
  -- a command that needs the settings, where they or the journal couldn't be opened
  pub unopened : uses_settings command ≡ true → IsUntouched p → Unopens g limits p.before.source p.after.source p.before.disk p.after.disk status
      → Ladder g limits command p Own status
  unopened uses still (no_settings cause read same is) = settings_rung uses cause read still same is
  unopened uses still (no_journal settings read fails) =
      journal_rung (Some settings) (subst (λ b. Reads b p (Some settings)) (sym uses) read) fails.fault fails.unmounted still fails.status_is

-- what holds over each list that the book of a mounted office holds, holds over the entries in the pieces that were read
module _ {D : Type 0} (g : Ghosts D) (limits : Limits) (disk : D) (office : OfficeValue D) (mounted : IsMounted g limits disk office) (book : BookValue) (P : List Entry → Type 0) where
  pub over_what_was_read : IsOver office.origin (λ entries. Holds book (after_all entries office.trail)) → ((entries : List Entry) → Holds book entries → P entries) → IsOver office.origin P
  over_what_was_read over each = record {
    began = over.began;
    read = over.read;
    holds = each over.began (subst (λ (t : List Member). Holds book (after_all over.began t)) mounted.trail over.holds);
  }
