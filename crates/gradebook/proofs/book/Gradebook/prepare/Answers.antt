use Rattle.std.proofs.Common.{sym, ap, ◌∙◌}
use Rattle.gradebook.specs.Inside.{value_of}
use Rattle.gradebook.specs.Tables.{rows_at, all_placed_at}
use Rattle.gradebook.proofs.RowLemmas.{rows_kept}
use Rattle.gradebook.proofs.PlacedLemmas.{placed_kept}
use Rattle.gradebook.proofs.BookLemmas.{same_contents}
use Rattle.gradebook.proofs.book.Gradebook.prepare.Goals as goal

pub returns-in-Issued-clause-contents : goal.returns-in-Issued-clause-contents
returns-in-Issued-clause-contents c =
    let before = c.self.inside in
    let texts = c.make_room.new.texts in
    rw (sym c.self.view_is)
    (same_contents (value_of before) (value_of (record { texts = texts; standings = c.make_room.new.standings; placements = before.placements }))
    (ap (rows_at texts) c.make_room.ensures.entries ∙ rows_kept before.texts texts c.make_room.ensures.keeps before.standings.entries c.self.invariant.rows)
    (placed_kept before.texts texts c.make_room.ensures.keeps before.placements.entries c.self.invariant.placed))

pub returns-in-Launch-clause-contents : goal.returns-in-Launch-clause-contents
returns-in-Launch-clause-contents c =
    let before = c.self.inside in
    let texts = c.make_room-in-Launch.new.texts in
    rw (sym c.self.view_is)
    (same_contents (value_of before) (value_of (record { texts = texts; standings = before.standings; placements = c.make_room-in-Launch.new.placements }))
    (rows_kept before.texts texts c.make_room-in-Launch.ensures.keeps before.standings.entries c.self.invariant.rows)
    (ap (all_placed_at texts) c.make_room-in-Launch.ensures.entries ∙ placed_kept before.texts texts c.make_room-in-Launch.ensures.keeps before.placements.entries c.self.invariant.placed))
