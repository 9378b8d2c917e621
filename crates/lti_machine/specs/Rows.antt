-- Which ids are issued, and how each stands (LTI 1.1.1, section 6: the grade of a sourcedId).
use Rattle.std.specs.Prelude.{ℕ, Bool, ◌&&◌, List, [], ◌∷◌, ◌++◌, map, bytes_eq, if◌then◌else◌}
use Rattle.std.specs.List.{fold, list_any}
use Rattle.lti_machine.specs.declared.entry.Entry.{Entry}
use Rattle.lti_machine.specs.declared.entry.Effect.{Effect}
use Rattle.lti_machine.specs.declared.entry.Effect.TheVariants as effect
use Rattle.lti_machine.specs.declared.standing.Standing.{Standing}
use Rattle.lti_machine.specs.declared.standing.Standing.TheVariants.{Unknown, Empty, Scored}
use Rattle.lti_machine.specs.Standings.{standing}

-- an id under its key
pub record Owned : Type 0 where
  pub key : List ℕ
  pub id : List ℕ

abbrev pub same_owned : Owned → Owned → Bool
same_owned a b = bytes_eq a.key b.key && bytes_eq a.id b.id

-- put at the end, unless it is there already
abbrev pub add_owned : List Owned → Owned → List Owned
add_owned ids owned = if list_any (same_owned owned) ids then ids else ids ++ owned ∷ []

abbrev pub after_effect : List Owned → List ℕ → Effect → List Owned
after_effect ids key (effect.Issued id) = add_owned ids (record { key = key; id = id })
after_effect ids key _ = ids

abbrev pub after_entry : List Owned → Entry → List Owned
after_entry ids entry = after_effect ids entry.key entry.effect

-- the issued ids, each once under its key, in order of first issue
abbrev pub issued : List Entry → List Owned
issued entries = fold after_entry [] entries

-- an issued id, and how its grade stands
pub record RowValue : Type 0 where
  pub key : List ℕ
  pub id : List ℕ
  pub standing : Standing

abbrev pub row_of : List Entry → Owned → RowValue
row_of entries owned = record { key = owned.key; id = owned.id; standing = standing entries owned.key owned.id }

-- each issued id with its grade, in order of first issue
abbrev pub rows_of : List Entry → List RowValue
rows_of entries = map (row_of entries) (issued entries)

-- the row of this id under this key
abbrev pub is_row : List ℕ → List ℕ → RowValue → Bool
is_row key id row = bytes_eq key row.key && bytes_eq id row.id

-- how an id stands under a key, by these rows
abbrev pub standing_in : List RowValue → List ℕ → List ℕ → Standing
standing_in [] key id = Unknown
standing_in (row ∷ rows) key id = if is_row key id row then row.standing else standing_in rows key id

-- there is a row of this id under this key
abbrev pub has_row : List RowValue → List ℕ → List ℕ → Bool
has_row rows key id = list_any (is_row key id) rows

-- the row of the id, where there is one, has this standing
abbrev pub set_row : List RowValue → List ℕ → List ℕ → Standing → List RowValue
set_row [] key id standing = []
set_row (row ∷ rows) key id standing =
    if is_row key id row then record row { standing = standing } ∷ rows else row ∷ set_row rows key id standing

-- the id has a row, which is new at the end where it had none
abbrev pub add_row : List RowValue → RowValue → List RowValue
add_row rows row = if has_row rows row.key row.id then rows else rows ++ row ∷ []

-- the rows after an effect under a key
abbrev pub rows_after : List RowValue → List ℕ → Effect → List RowValue
rows_after rows key (effect.Issued id) = add_row rows (record { key = key; id = id; standing = Empty })
rows_after rows key (effect.Grade id score) = set_row rows key id (Scored score)
rows_after rows key (effect.Cleared id) = set_row rows key id Empty
rows_after rows key effect.Nothing = rows
rows_after rows key (effect.Launch link user sourced_id service) = rows
