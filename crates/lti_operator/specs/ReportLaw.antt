-- How near the total of a report is to the exact sum (this project's own).
use Rattle.std.specs.Prelude.{◌≡◌, ◌<◌, ◌+◌, ◌*◌, ◌^◌, ℕ, List}
use Rattle.std.specs.List.{sum_by}
use Rattle.lti_machine.specs.declared.standing.Standing.{Standing}
use Rattle.lti_machine.specs.declared.standing.Standing.TheVariants.{Scored}
use Rattle.lti_machine.specs.Rows.{RowValue}
use Rattle.lti_operator.specs.Report.{AreTold, graded, sum_of}

-- the exact share of an id, in units of 10^-30 of a point
abbrev pub exact_of : ℕ → Standing → ℕ
exact_of most (Scored score) = score * most
exact_of most _ = 0

-- the exact sum of all shares
abbrev pub exact : ℕ → List RowValue → ℕ
exact most rows = sum_by (λ row. exact_of most row.standing) rows

-- The total is less than the number of grades away from the exact sum, and 0 where there is no grade.
pub record IsNearTotal (most : ℕ) (rows : List RowValue) (points : List ℕ) : Type 0 where
  pub none : graded rows ≡ 0 → sum_of points ≡ 0
  pub above : 0 < graded rows → sum_of points * 10 ^ 30 < exact most rows + graded rows * 10 ^ 30
  pub below : 0 < graded rows → exact most rows < sum_of points * 10 ^ 30 + graded rows * 10 ^ 30

abbrev pub TotalIsNear : Type 0
TotalIsNear = (most : ℕ) (rows : List RowValue) (points : List ℕ) → AreTold most rows points → IsNearTotal most rows points
