use Rattle.std.proofs.Common.{◌≡◌, drop, map}
use Rattle.std.specs.List.{list_any}
use Rattle.httparse.specs.Spans.{header_bytes}
use Rattle.http_wire.specs.Headers.{is_bad_header}
use Rattle.http_wire.proofs.headers.has_bad_value.Given as goal

abbrev pub invariant-loop-header : goal.invariant-loop-header
invariant-loop-header l = list_any is_bad_header (map (header_bytes l.head) l.headers) ≡ list_any is_bad_header (map (header_bytes l.head) (drop l.header-index l.headers))
