-- What a book keeps in its tables, and what is true of them.
use Rattle.indexmap.specs.IndexMap.{spare}
use Rattle.gradebook.specs.Book.{BookValue}
use Rattle.gradebook.specs.Tables.{rows_at, all_placed_at, AreRowsWithin, ArePlacedWithin}
use Rattle.gradebook.specs.declared.book.Gradebook.TheInside.{Inside}

-- the tables, with the texts for their numbers
abbrev pub value_of : Inside → BookValue
value_of inside = record {
  rows = rows_at inside.texts inside.standings.entries;
  placed = all_placed_at inside.texts inside.placements.entries;
  known = inside.texts;
  row_room = spare inside.standings;
  placed_room = spare inside.placements;
}

-- each number in a table is that of a text
pub record IsSound (inside : Inside) : Type 0 where
  pub rows : AreRowsWithin inside.texts inside.standings.entries
  pub placed : ArePlacedWithin inside.texts inside.placements.entries
