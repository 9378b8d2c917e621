-- What is true of the tree that a minute keeps.
use Rattle.std.specs.Prelude.{◌≡◌, ℕ, List, length}
use Rattle.std.specs.List.Sorted.{IsStrictlySortedBy}
use Rattle.std.specs.Map.{keys_of}
use Rattle.std.specs.String.{string_cmp}
use Rattle.std.specs.declared.alloc.Global.{Global}
use Rattle.std.specs.declared.string.String.{String}
use Rattle.nonce_window.specs.Minutes.{stamps_of}

-- the texts ascend, and the count is that of the stamps
pub record IsMinute (entries : List (String Global × List ℕ)) (counted : ℕ) : Type 0 where
  pub ordered : IsStrictlySortedBy string_cmp (keys_of entries)
  pub count : counted ≡ length (stamps_of entries)
