use Rattle.std.proofs.Common.{map}
use Rattle.std.specs.Char.{to_ascii_lowercase}
use Rattle.std.specs.Cmp.{both_ways}
use Rattle.std.proofs.lemmas.Slice.Eq.{bytes_eq-Decides}
use Rattle.http_wire.specs.Headers.{is_same_text}
use Rattle.http_wire.proofs.values.is_same_text.Goals as goal

pub returns : goal.returns
unfolding is_same_text
returns c =
    let decides = bytes_eq-Decides (map to_ascii_lowercase c.args.one.now) (map to_ascii_lowercase c.args.other.now) in
    let test = c.eq_ignore_ascii_case.ensures.test in
    both_ways c.eq_ignore_ascii_case.result _ (λ same. decides.1 (test.0 same)) (λ same. test.1 (decides.0 same))
