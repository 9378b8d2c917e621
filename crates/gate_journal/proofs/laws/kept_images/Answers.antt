use Rattle.std.proofs.Common.{◌≤◌, arith}
use Rattle.gate_journal.specs.Journal.{place_of}
use Rattle.gate_journal.proofs.HeadLemmas.{Stands-for}
use Rattle.gate_journal.proofs.DoubtLemmas.{either}
use Rattle.gate_journal.proofs.laws.kept_images.Goals as goal

pub returns-clause-keeps : goal.returns-clause-keeps
returns-clause-keeps g c = λ payloads image keeps left.
    let m = c.args.journal.now in
    Stands-for image (place_of m) m.is_open m.may_open payloads (keeps.each image left)

pub returns-clause-may_keep : goal.returns-clause-may_keep
returns-clause-may_keep g c = λ payloads others image may left.
    let m = c.args.journal.now in
    let some = m.some in
    let nine : 9 ≤ m.half = omega (arith, some) in
    either (place_of m) nine m.is_open m.may_open payloads others m.doubt image (may.each image left)
