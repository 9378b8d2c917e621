use Rattle.std.proofs.Common.{◌≡◌, ◌≤◌, length, take, filter, map}
use Rattle.httparse.specs.Spans.{header_bytes}
use Rattle.http_wire.specs.Headers.{is_named}
use Rattle.http_wire.proofs.headers.count_named.Given as goal

abbrev pub invariant-loop-header : goal.invariant-loop-header
invariant-loop-header l = (l.count ≡ length (filter (is_named l.name) (map (header_bytes l.head) (take l.header-index l.headers)))) × (l.count ≤ l.header-index)
