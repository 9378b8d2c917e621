use Rattle.std.proofs.Common.{ℕ, List, length}
use Rattle.lti_outside.specs.Disk.{TornFrom}
use Rattle.lti_outside.proofs.DiskMomentLemmas.{Torn-same, LeavesOnly-start, LeavesOnly-call}
use Rattle.lti_outside.proofs.synced.write_synced.Goals as goal

pub returns-clause-moments : goal.returns-clause-moments
returns-clause-moments g c =
    let disk = g.D.Disk in
    let old = c.args.disk.now in
    let n = length c.args.piece.now in
    let torn : List ℕ → Type 0 = TornFrom c.args.place n (disk.may_leave old) in
    let start = LeavesOnly-start disk old torn g.met.D.Disk.only_now (λ image left. (image, left, Torn-same c.args.place n image)) in
    let write = LeavesOnly-call disk old old c.write_at.new.self torn start c.write_at.ensures.time c.write_at.ensures.crash in
    LeavesOnly-call disk old c.write_at.new.self c.sync.new.self torn write c.sync.ensures.time (λ image left. c.write_at.ensures.crash image (c.sync.ensures.fewer image left))
