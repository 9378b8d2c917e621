use Rattle.std.proofs.Common.{◌≡◌, ◌≤◌, ◌+◌, drop}
use Rattle.http_wire.specs.Lines.{line_ends}
use Rattle.http_wire.proofs.lines.line_ends.Given as goal

abbrev pub invariant-loop-byte : goal.invariant-loop-byte
invariant-loop-byte l = (l.count + line_ends l.before (drop l.byte-index l.head) ≡ line_ends 0 l.head) × (l.count ≤ l.byte-index)
