-- What a crash leaves of a history.
use Rattle.std.specs.Prelude.{◌≡◌, ◌⊎◌, ℕ, false, List, [], ◌∷◌, ◌++◌, All, ⊤, Option, Some, None}
use Rattle.gate_journal.specs.Half.{StandsFor}
use Rattle.lti_machine.specs.History.{Member, after_all}
use Rattle.lti_machine.specs.Rules.{is_acceptance}
use Rattle.lti_machine.specs.declared.call.Call.{Call}
use Rattle.lti_machine.specs.declared.entry.Entry.{Entry}
use Rattle.lti_machine.specs.declared.reply.Reply.TheVariants.{DiskFault}
use Rattle.lti_desk.specs.Keeper.{payloads}
use Rattle.lti_desk.specs.Legal.{entry_at}

-- the lists give the same replies ever after
abbrev pub AreSame : List Entry → List Entry → Type 0
AreSame entries others = entries ≡ others

-- the image stands for a list that is the same as this one
pub record IsFor (half : ℕ) (entries : List Entry) (image : List ℕ) : Type 0 where
  pub list : List Entry
  pub same : AreSame entries list
  pub stands : StandsFor image half (payloads list)

-- the entry is that of a member that was answered by a fault of the disk and stands behind the last acceptance
pub record IsInDoubt (window : ℕ) (entries : List Entry) (trail : List Member) (entry : Entry) : Type 0 where
  pub front : List Member
  pub call : Call
  pub faults : ℕ
  pub rest : List Member
  pub trail_is : trail ≡ front ++ (call, DiskFault faults) ∷ rest
  pub none_since : All (λ m. is_acceptance m.1 ≡ false) rest
  pub entry_is : entry ≡ entry_at window (after_all entries front) call

-- a doubt is such an entry, or none
abbrev pub IsDoubt : ℕ → List Entry → List Member → Option Entry → Type 0
IsDoubt window entries trail None = ⊤
IsDoubt window entries trail (Some entry) = IsInDoubt window entries trail entry

-- the image stands for the list after the trail, or for that list with an entry in doubt
abbrev pub IsLeft : ℕ → ℕ → List Entry → List Member → List ℕ → Type 0
IsLeft half window entries trail image =
    IsFor half (after_all entries trail) image
    ⊎ ((entry : Entry) × IsInDoubt window entries trail entry × IsFor half (after_all entries trail ++ entry ∷ []) image)
