use Rattle.std.proofs.Common.{◌≡◌, drop}
use Rattle.http_wire.specs.Lines.{has_bare_line_feed}
use Rattle.http_wire.proofs.lines.has_bare_line_feed.Given as goal

abbrev pub invariant-loop-byte : goal.invariant-loop-byte
invariant-loop-byte l = has_bare_line_feed l.before (drop l.byte-index l.head) ≡ has_bare_line_feed 0 l.head
