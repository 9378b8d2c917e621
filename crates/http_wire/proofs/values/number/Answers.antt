use Rattle.http_wire.proofs.NumberLemmas.{length_is_ascii, length_parses}
use Rattle.http_wire.proofs.values.number.Goals as goal

pub ascii_str-requires : goal.ascii_str-requires
ascii_str-requires c = length_is_ascii c.args.value.now c.requires

pub unreachable-requires : goal.unreachable-requires
unreachable-requires c = c.in-Err.ensures.value.0 (rw c.ascii_str.ensures (length_parses c.args.value.now c.requires))
