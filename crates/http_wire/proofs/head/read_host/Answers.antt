use Rattle.std.proofs.Common.{◌≤◌, List, ℕ, length, filter, map, codes, IsAscii, subst, ap, arith}
use Rattle.std.proofs.lemmas.List.{length-map}
use Rattle.std.proofs.lemmas.Result.{IfOk-weaker}
use Rattle.httparse.specs.Spans.{header_bytes}
use Rattle.http_wire.specs.Headers.{is_named, values_of, first_in}
use Rattle.http_wire.proofs.HeaderLemmas.{host_is_ascii, one_value, host_found, host_bad}
use Rattle.http_wire.proofs.head.read_host.Goals as goal

pub ascii_str-requires : goal.ascii_str-requires
ascii_str-requires c =
    subst IsAscii (ap first_in c.in-Some.ensures.some.1) (host_is_ascii (map (header_bytes c.args.head.now) c.args.headers.now) c.requires.readable)

pub returns-clause-found : goal.returns-clause-found
returns-clause-found c =
    let headers = map (header_bytes c.args.head.now) c.args.headers.now in
    let few : length (values_of (codes "Host") headers) ≤ 1
    = omega (arith, length-map (filter (is_named (codes "Host")) headers) (λ (h : List ℕ × List ℕ). h.1), c.count_named.ensures, c.if-count_named-gt1.false) in
    let one = one_value (values_of (codes "Host") headers) c.in-Some.ensures.some.0 c.in-Some.value.now c.in-Some.ensures.some.1 few in
    IfOk-weaker c.read.result _ _
    (λ host is. host_found (values_of (codes "Host") headers) c.in-Some.value.now c.ascii_str.result.now host.name host.port one c.ascii_str.ensures is)
    c.read.ensures.found

pub returns-clause-bad : goal.returns-clause-bad
returns-clause-bad c =
    let headers = map (header_bytes c.args.head.now) c.args.headers.now in
    let few : length (values_of (codes "Host") headers) ≤ 1
    = omega (arith, length-map (filter (is_named (codes "Host")) headers) (λ (h : List ℕ × List ℕ). h.1), c.count_named.ensures, c.if-count_named-gt1.false) in
    let one = one_value (values_of (codes "Host") headers) c.in-Some.ensures.some.0 c.in-Some.value.now c.in-Some.ensures.some.1 few in
    λ bad. host_bad (values_of (codes "Host") headers) c.in-Some.value.now c.ascii_str.result.now one c.ascii_str.ensures (c.read.ensures.bad bad)
