-- What calls do to what a window is.
use Rattle.std.specs.Prelude.{◌≡◌, ℕ, max, List, [], ◌∷◌, ◌++◌, Option, Some, None, filter}
use Rattle.lti_machine.specs.declared.entry.Entry.{Entry}
use Rattle.lti_machine.specs.Nonces.{Stamp, stamp_of, live}
use Rattle.nonce_window.specs.Window.{WindowValue, Holds}
use Rattle.nonce_window.specs.Added.{IsAdded}
use Rattle.nonce_window.specs.Fresh.{is_fresh}
use Rattle.nonce_window.specs.Nonces.{plain}

-- it knows one more entry
pub record IsPut (before : WindowValue) (key : List ℕ) (stamp : Stamp) (after : WindowValue) : Type 0 where
  pub high : after.high ≡ before.high
  pub limit : after.limit ≡ before.limit
  pub known : IsAdded before.known (plain key stamp) after.known

-- at this moment, if it is later, and from then on each list held serves with one more entry
pub record IsAddedAt (before : WindowValue) (moment : ℕ) (key : List ℕ) (stamp : Stamp) (after : WindowValue) : Type 0 where
  pub high : after.high ≡ before.high
  pub limit : after.limit ≡ before.limit
  pub lists : (entries : List Entry) (entry : Entry) → Holds before entries → entry.key ≡ key → stamp_of entry ≡ stamp
      → (k : List ℕ) → live after.known k (max before.high moment) ≡ live (entries ++ entry ∷ []) k (max before.high moment)

-- it is at this moment, if that is later, and knows only what isn't forgotten then
abbrev pub passed : WindowValue → ℕ → WindowValue
passed before moment = record {
  high = max before.high moment;
  limit = before.limit;
  known = filter (is_fresh (max before.high moment)) before.known;
  ready = before.ready;
}

-- the last entry, if there is one, has come in
abbrev pub IsSettled : List Entry → Option Entry → List Entry → Type 0
IsSettled before None after = after ≡ before
IsSettled before (Some last) after = IsAdded before (plain last.key (stamp_of last)) after
