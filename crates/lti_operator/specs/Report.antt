-- The report of grades (this project's own): a line for each issued id, in order of first issue, and the total.
use Rattle.std.specs.Prelude.{◌≡◌, ◌+◌, ℕ, Bool, true, false, List, [], ◌∷◌, ◌++◌, count_by, codes, decimal, ⊤, Result, Ok, Err}
use Rattle.lti_outside.specs.Traffic.{Traffic, Moves, no_fault, GivesFront}
use Rattle.oauth_text.specs.Escape.{escape}
use Rattle.score_decimal.specs.Points.{IsNear}
use Rattle.score_decimal.specs.Printed.{score_text}
use Rattle.lti_machine.specs.declared.standing.Standing.{Standing}
use Rattle.lti_machine.specs.declared.standing.Standing.TheVariants.{Scored}
use Rattle.lti_machine.specs.Rows.{RowValue}
use Rattle.lti_operator.specs.declared.reports.ReportFault.{ReportFault}
use Rattle.lti_operator.specs.declared.reports.ReportFault.TheVariants.{WriteFault, NoMemory}

abbrev pub is_scored : Standing → Bool
is_scored (Scored score) = true
is_scored _ = false

-- the id has a grade
abbrev pub is_graded : RowValue → Bool
is_graded row = is_scored row.standing

-- The points of a grade, out of the most: at most these, and less than one point from the exact share. An id without a
-- grade has none.
abbrev pub IsTold : ℕ → Standing → ℕ → Type 0
IsTold most (Scored score) points = IsNear score most points
IsTold most _ points = points ≡ 0

-- each row has its points
abbrev pub AreTold : ℕ → List RowValue → List ℕ → Type 0
AreTold most [] [] = ⊤
AreTold most (row ∷ rows) (points ∷ more) = IsTold most row.standing points × AreTold most rows more
AreTold most rows points = ⊥

-- the score and its points, or `-` twice
abbrev pub grade_text : Standing → ℕ → List ℕ
grade_text (Scored score) points = score_text score ++ 9 ∷ decimal points
grade_text _ points = codes "-\t-"

-- key, id, score and points, parted by tabs
abbrev pub row_line : RowValue → ℕ → List ℕ
row_line row points = escape row.key ++ 9 ∷ escape row.id ++ 9 ∷ grade_text row.standing points ++ 10 ∷ []

abbrev pub lines_text : List RowValue → List ℕ → List ℕ
lines_text (row ∷ rows) (points ∷ more) = row_line row points ++ lines_text rows more
lines_text rows points = []

-- how many ids have a grade
abbrev pub graded : List RowValue → ℕ
graded rows = count_by is_graded rows

-- the points together
abbrev pub sum_of : List ℕ → ℕ
sum_of [] = 0
sum_of (points ∷ more) = points + sum_of more

-- the number of grades and the sum of their points
abbrev pub total_line : ℕ → ℕ → List ℕ
total_line count points = codes "total" ++ 9 ∷ decimal count ++ 9 ∷ decimal points ++ 10 ∷ []

-- the report of the rows, where these are their points
abbrev pub report_text : List RowValue → List ℕ → List ℕ
report_text rows points = lines_text rows points ++ total_line (graded rows) (sum_of points)

-- the lines of the rows were appended, and so many of them have a grade, with so many points together
pub record Lists (most : ℕ) (rows : List RowValue) (before after : List ℕ) (count sum : ℕ) : Type 0 where
  pub points : List ℕ
  pub told : AreTold most rows points
  pub text : after ≡ before ++ lines_text rows points
  pub count_is : count ≡ graded rows
  pub total : sum ≡ sum_of points

-- The report of the rows was written, or a proper front of it where a write failed; for want of memory nothing was.
abbrev pub IsReported : ℕ → List RowValue → Traffic → Traffic → Result Unit ReportFault → Type 0
IsReported most rows before after (Ok _) =
    (points : List ℕ) × AreTold most rows points × Moves before after [] (report_text rows points) no_fault
IsReported most rows before after (Err WriteFault) =
    (points : List ℕ) × AreTold most rows points × GivesFront before after (report_text rows points)
IsReported most rows before after (Err NoMemory) = after ≡ before
