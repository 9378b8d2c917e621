-- What a book is to whoever calls it, and which lists of accepted entries it holds.
use Rattle.std.specs.Prelude.{◌≡◌, ◌<◌, ℕ, ⊤, List, [], ◌∷◌, ◌++◌}
use Rattle.lti_machine.specs.declared.entry.Entry.{Entry}
use Rattle.lti_machine.specs.declared.entry.Effect.{Effect}
use Rattle.lti_machine.specs.declared.entry.Effect.TheVariants as effect
use Rattle.lti_machine.specs.Standings.{standing}
use Rattle.lti_machine.specs.Rows.{RowValue, rows_of, standing_in}
use Rattle.lti_machine.specs.Placements.{PlacedValue, placed_of, placement, placement_in}
use Rattle.gradebook.specs.Texts.{IsKnown}

-- What a book is. What it tells is a list, in which it is looked up, since a value is data and no function.
pub record BookValue : Type 0 where
  -- the issued ids with their grades, in order of first issue
  pub rows : List RowValue
  -- where the grades go, in order of first launch
  pub placed : List PlacedValue
  -- the texts that have a number
  pub known : List (List ℕ)
  -- for how many more ids and placements there is room
  pub row_room : ℕ
  pub placed_room : ℕ

-- the book tells what all these entries say
pub record Holds (book : BookValue) (entries : List Entry) : Type 0 where
  pub rows : book.rows ≡ rows_of entries
  pub standing : (key id : List ℕ) → standing_in book.rows key id ≡ standing entries key id
  pub placed : book.placed ≡ placed_of entries
  pub placement : (key link user : List ℕ) → placement_in book.placed key link user ≡ placement entries key link user

-- each list held before is held after with this entry behind it
abbrev pub Adds : BookValue → BookValue → Entry → Type 0
Adds before after entry = (entries : List Entry) → Holds before entries → Holds after (entries ++ entry ∷ [])

-- the book tells the same
pub record SameContents (before after : BookValue) : Type 0 where
  pub rows : after.rows ≡ before.rows
  pub standing : (key id : List ℕ) → standing_in after.rows key id ≡ standing_in before.rows key id
  pub placed : after.placed ≡ before.placed
  pub placement : (key link user : List ℕ) → placement_in after.placed key link user ≡ placement_in before.placed key link user

-- there is room for one more id under this key
pub record IsReadyToIssue (book : BookValue) (key id : List ℕ) : Type 0 where
  pub key_known : IsKnown book.known key
  pub id_known : IsKnown book.known id
  pub room : 0 < book.row_room

-- there is room for one more launch
pub record IsReadyToPlace (book : BookValue) (key link user : List ℕ) : Type 0 where
  pub key_known : IsKnown book.known key
  pub link_known : IsKnown book.known link
  pub user_known : IsKnown book.known user
  pub room : 0 < book.placed_room

abbrev pub IsReadyFor : BookValue → List ℕ → Effect → Type 0
IsReadyFor book key (effect.Issued id) = IsReadyToIssue book key id
IsReadyFor book key (effect.Launch link user sourced_id service) = IsReadyToPlace book key link user
IsReadyFor book key _ = ⊤

-- There is room for what the entry adds. A grade that is set or cleared adds nothing: it is that of an issued id.
abbrev pub IsReady : BookValue → Entry → Type 0
IsReady book entry = IsReadyFor book entry.key entry.effect
