-- A message that is gathered before it is fed to its code.
use Rattle.std.specs.Prelude.{◌≡◌, ℕ, List, ◌++◌, take}
use Rattle.oauth_sign.specs.Hmac.{Holds}
use Rattle.oauth_sign.specs.declared.feed.Feed.{Feed}

-- the code was started with this key, and what it was fed and what is held behind it make up the message
pub record StandsFor (feed : Feed) (key message : List ℕ) : Type 0 where
  pub fed : List ℕ
  pub holds : Holds feed.mac key fed
  pub is : message ≡ fed ++ take feed.len feed.held

-- whatever message the first stood for, the second stands for that and then the piece
abbrev pub Takes : Feed → Feed → List ℕ → Type 0
Takes old new piece = (key message : List ℕ) → StandsFor old key message → StandsFor new key (message ++ piece)
