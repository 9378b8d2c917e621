use Rattle.std.proofs.Common.{arith}
use Rattle.std.proofs.Math.Nat.{pow-le-pow_right}
use Rattle.score_decimal.proofs.digits.ten_to.Goals as goal

pub overflow_mul-power : goal.overflow_mul-power
overflow_mul-power c =
    let least = pow-le-pow_right {n = 10} (omega arith) {i = c.loop.counter} {j = 29} (omega arith) in
    omega (arith, least, c.loop.invariant)
