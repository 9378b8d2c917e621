use Rattle.std.proofs.Common.{[], sym, refl, arith}
use Rattle.lti_desk.specs.Held.{IsLed}
use Rattle.lti_desk.specs.declared.origin.Origin.{Origin}
use Rattle.lti_desk.proofs.OfficeLemmas.{keeping, begins}
use Rattle.lti_desk.proofs.office.Office.mount.Goals as goal

pub returns-in-Ok-clause-mounted : goal.returns-in-Ok-clause-mounted
returns-in-Ok-clause-mounted g c =
    let m = c.in_ok-keeper in
    let found = m.ensures.known in
    let origin : Origin = record { pieces = m.pieces; journal = c.position-journal.result; window = c.args.limits.now.window; faults = c.faults-faults.result } in
    let led : IsLed {g = g.D.Disk} m.keeper origin [] =
    begins m.keeper origin found.0 found.1 found.2 (λ tells. (found.3 tells).1) m.ensures.limit (sym c.position-journal.ensures) (omega (arith, c.faults-faults.ensures, m.ensures.faults)) in
    rw c.in-Ok.ensures.items (record {
      enough = m.ensures.enough;
      known = λ tells. record { began = found.0; read = found.1; holds = (found.3 tells).0 };
      keeps = keeping m.keeper origin [] c.args.limits.now.calls 0 led (omega arith);
      seen = m.ensures.seen;
      faults = m.ensures.faults;
      counted = c.faults-faults.ensures;
      half = m.ensures.half;
      window = refl;
      limit = refl;
      trail = refl;
      settled = m.ensures.settled;
      moments = m.ensures.any_moment;
    })
