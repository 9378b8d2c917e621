use Rattle.std.proofs.Common.{Err, refl, ap}
use Rattle.gate_journal.specs.Read.{place_read}
use Rattle.gate_journal.specs.Pieces.{payloads_of}
use Rattle.gate_journal.proofs.HeadLemmas.{Stands-recovers}
use Rattle.gate_journal.proofs.UniqueLemmas.{undamaged, hindered, damaged_or_hindered, same_damage}
use Rattle.gate_journal.proofs.journal.Journal.mount.Goals as goal

pub returns-in-Ok-clause-recovers : goal.returns-in-Ok-clause-recovers
returns-in-Ok-clause-recovers g c = λ tells.
    Stands-recovers (g.D.Disk.seen c.args.disk) (place_read c.args.half c.in-Ok.current c.in-Ok.gate) c.in-Ok.current.is_open c.in-Ok.current.may_open (payloads_of c.in-Ok.pieces.items) (c.in-Ok.ensures.stands tells)

pub returns-in-Ok-clause-refused : goal.returns-in-Ok-clause-refused
returns-in-Ok-clause-refused g c = λ tells at damage.
    let seen = g.D.Disk.seen c.args.disk in
    let j = place_read c.args.half c.in-Ok.current c.in-Ok.gate in
    let recovers = Stands-recovers seen j c.in-Ok.current.is_open c.in-Ok.current.may_open (payloads_of c.in-Ok.pieces.items) (c.in-Ok.ensures.stands tells) in
    absurd (undamaged seen c.args.half at (payloads_of c.in-Ok.pieces.items) c.requires.high (j, refl, recovers) damage)

pub returns-in-Err-clause-mounted : goal.returns-in-Err-clause-mounted
returns-in-Err-clause-mounted g c = λ tells room payloads stands.
    let e = c.in-Err.ensures in
    hindered c.in-Err.fault (λ size is. e.never_small size (ap Err is)) (λ at is. undamaged (g.D.Disk.seen c.args.disk) c.args.half at payloads c.requires.high stands (e.damaged tells at (ap Err is)))

pub returns-in-Err-clause-damaged_at : goal.returns-in-Err-clause-damaged_at
returns-in-Err-clause-damaged_at g c = λ tells room at damage.
    let e = c.in-Err.ensures in
    damaged_or_hindered c.in-Err.fault at (λ size is. e.never_small size (ap Err is)) (λ found is. same_damage (g.D.Disk.seen c.args.disk) c.args.half found at c.requires.high (e.damaged tells found (ap Err is)) damage)
