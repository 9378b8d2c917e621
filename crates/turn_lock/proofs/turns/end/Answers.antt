use Rattle.std.proofs.Common.{arith}
use Rattle.turn_lock.proofs.Ending.{ends}
use Rattle.turn_lock.proofs.turns.end.Goals as goal

pub fetch_add-requires : goal.fetch_add-requires
fetch_add-requires g c =
    let two = c.requires.words in
    let v = c.requires.value in
    (c.requires.seat, omega (arith, two.0), ends _ _ _ _ _ _ v.0 v.1 v.2)
