use Rattle.std.proofs.Common.{◌≡◌, ◌+◌, ◌-◌, ◌<◌, ◌++◌, length, map, drop}
use Rattle.lti_outside.specs.DiskMoments.{OnlyReads}
use Rattle.gate_journal.specs.Half.{blocks}
use Rattle.gate_journal.specs.Pieces.{payloads_of, places_from}
use Rattle.gate_journal.proofs.reading.read_pieces.Given as goal

abbrev pub invariant-loop-pieces : goal.invariant-loop-pieces
invariant-loop-pieces g l =
    let seen = g.D.Disk.seen l.initial.disk in
    let payloads = payloads_of l.pieces.items in
    record {
      reads : OnlyReads g.D.Disk l.initial.disk l.disk;
      faults : g.D.Disk.faults l.disk ≡ g.D.Disk.faults l.initial.disk;
      so_far : g.D.Disk.tells → drop (l.base + 9) seen ≡ blocks payloads ++ drop l.at seen;
      ends : l.base + 9 + length (blocks payloads) ≡ l.at;
      inside : l.at < l.end;
      places : map (λ piece. piece.at) l.pieces.items ≡ places_from (l.base + 9) payloads;
    }

abbrev pub decreases-loop-pieces : goal.decreases-loop-pieces
decreases-loop-pieces g l = l.end - l.at
