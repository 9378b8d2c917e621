-- What a window is to whoever calls it, and which lists of entries it holds. A server needn't keep nonces for
-- ever (RFC 5849 section 3.3): so a window holds a list without keeping each of its entries.
use Rattle.std.specs.Prelude.{◌≡◌, ℕ, List, Option, Some}
use Rattle.lti_machine.specs.declared.entry.Entry.{Entry}
use Rattle.lti_machine.specs.Nonces.{Stamp, live}

-- What a window is. `known` is what it still knows of the entries; which forgotten ones are among them is left open.
pub record WindowValue : Type 0 where
  -- the greatest moment so far
  pub high : ℕ
  -- how many nonces a key may have at once
  pub limit : ℕ
  pub known : List Entry
  -- the key and the stamp for which room was made
  pub ready : Option (List ℕ × Stamp)

-- Each key has the same stamps that aren't forgotten at the window's moment. So a window holds what it knows, and
-- each list that may stand for it.
abbrev pub Holds : WindowValue → List Entry → Type 0
Holds window entries = (key : List ℕ) → live window.known key window.high ≡ live entries key window.high

-- there is room for this stamp of this key
abbrev pub IsReady : WindowValue → List ℕ → Stamp → Type 0
IsReady window key stamp = window.ready ≡ Some (key, stamp)
