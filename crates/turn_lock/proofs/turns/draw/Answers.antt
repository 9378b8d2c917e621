use Rattle.std.proofs.Common.{arith}
use Rattle.turn_lock.proofs.Drawing.{draws}
use Rattle.turn_lock.proofs.turns.draw.Goals as goal

pub fetch_add-requires : goal.fetch_add-requires
fetch_add-requires g c =
    let two = c.requires.words in
    let s = c.requires.seat in
    (s.0, omega (arith, two.0), draws _ _ _ _ _ _ s.1 s.3)
