use Rattle.std.proofs.Common.{ℕ, List, subst}
use Rattle.score_decimal.specs.Written.{IsWritten}
use Rattle.score_decimal.proofs.score.Score.read.Goals as goal

pub returns-in-Some : goal.returns-in-Some
returns-in-Some c n =
    let written = c.in-Some.ensures.written n in (
      (λ made. subst (λ (t : List ℕ). IsWritten t n) c.as_bytes.ensures.value (written.0 made)),
      (λ is. written.1 (rw c.as_bytes.ensures.value is)),
    )
