use Rattle.std.proofs.Common.{◌≡◌, drop, map}
use Rattle.httparse.specs.Spans.{header_bytes}
use Rattle.http_wire.specs.Headers.{values_of}
use Rattle.http_wire.proofs.headers.first_named.Given as goal

abbrev pub invariant-loop-header : goal.invariant-loop-header
invariant-loop-header l =
    values_of l.name (map (header_bytes l.head) l.headers) ≡ values_of l.name (map (header_bytes l.head) (drop l.header-index l.headers))
