use Rattle.std.proofs.Common.{arith, ◌∙◌, ap}
use Rattle.turn_lock.proofs.Looking.{looks}
use Rattle.turn_lock.proofs.turns.await_turn.Goals as goal

pub load-served-requires : goal.load-served-requires
load-served-requires g c =
    let b = c.requires.words in
    let s = c.requires.seat in
    let l = c.loop.invariant in
    (l.0 ∙ s.0, omega (arith, b.0), looks _ _ _ _ _ s.1.0 _ (ap (λ m. m.0.phase) l.2 ∙ s.1.2))
