-- What the calls of a window say of each list that it holds.
use Rattle.std.specs.Prelude.{◌≡◌, ◌<◌, ◌↔◌, ◌^◌, ◌-◌, ℕ, List, [], ◌∷◌, ◌++◌, length}
use Rattle.lti_machine.specs.declared.entry.Entry.{Entry}
use Rattle.lti_machine.specs.declared.verdict.Verdict.{Verdict}
use Rattle.lti_machine.specs.Nonces.{Stamp, stamp_of, live, verdict}
use Rattle.nonce_window.specs.Window.{WindowValue, Holds}

-- this is the verdict of each list held on this stamp of this key
abbrev pub Says : WindowValue → List ℕ → Stamp → ℕ → Verdict → Type 0
Says window key stamp now answer =
    (entries : List Entry) → Holds window entries → answer ≡ verdict entries key stamp now window.limit

-- so many stamps of this key aren't forgotten at the window's moment, by each list held
abbrev pub Counts : WindowValue → List ℕ → ℕ → Type 0
Counts window key count = (entries : List Entry) → Holds window entries → count ≡ length (live entries key window.high)

-- one more stamp of this key still has a number in 32 bits
abbrev pub HasRoom : WindowValue → List ℕ → Type 0
HasRoom window key = (entries : List Entry) → Holds window entries → length (live entries key window.high) < 2 ^ 32 - 1

-- each list held before is held after with one more entry of this key and this stamp
abbrev pub Adds : WindowValue → WindowValue → List ℕ → Stamp → Type 0
Adds before after key stamp =
    (entries : List Entry) (entry : Entry) → Holds before entries → entry.key ≡ key → stamp_of entry ≡ stamp
    → Holds after (entries ++ entry ∷ [])

-- each list held before is held after
abbrev pub Keeps : WindowValue → WindowValue → Type 0
Keeps before after = (entries : List Entry) → Holds before entries → Holds after entries

-- the same lists are held, at the same moment and with the same limit
pub record SameContents (before after : WindowValue) : Type 0 where
  pub high : after.high ≡ before.high
  pub limit : after.limit ≡ before.limit
  pub lists : (entries : List Entry) → Holds before entries ↔ Holds after entries
