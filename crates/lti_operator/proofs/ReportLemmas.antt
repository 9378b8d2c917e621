-- Rows told one after another, and their total.
use Rattle.std.proofs.Common.{◌≡◌, ◌≤◌, ◌+◌, ◌*◌, ◌^◌, ℕ, zero, suc, cond, List, [], ◌∷◌, ◌++◌, take, slice_get, Some, refl, sym, ap, ◌∙◌, append_assoc, append-nil, arith}
use Rattle.std.proofs.lemmas.List.Sums.{sum_by-append, sum_by-cons}
use Rattle.lti_machine.specs.declared.standing.Standing.{Standing}
use Rattle.lti_machine.specs.declared.standing.Standing.TheVariants.{Unknown, Empty, Scored}
use Rattle.lti_machine.specs.declared.entry.Entry.{Entry}
use Rattle.gradebook.specs.Book.{BookValue, Holds, SameContents}
use Rattle.lti_machine.specs.Rows.{RowValue}
use Rattle.lti_operator.specs.Report.{is_scored, is_graded, IsTold, AreTold, row_line, lines_text, graded, sum_of, Lists}
use Rattle.lti_operator.specs.ReportLaw.{exact_of, exact, TotalIsNear}

-- how many grades one id has
abbrev pub count_one : Standing → ℕ
count_one standing = cond (is_scored standing) 1 0

-- no row was told
pub Lists-none : (most : ℕ) (before : List ℕ) → Lists most [] before before 0 0
Lists-none most before = record { points = []; told = tt; text = sym (append-nil before); count_is = refl; total = refl }

AreTold-push : (most : ℕ) (rows : List RowValue) (points : List ℕ) (row : RowValue) (more : ℕ) → AreTold most rows points → IsTold most row.standing more
    → AreTold most (rows ++ row ∷ []) (points ++ more ∷ [])
AreTold-push most [] [] row more told last = (last, tt)
AreTold-push most (r ∷ rows) (p ∷ points) row more told last = (told.0, AreTold-push most rows points row more told.1 last)
AreTold-push most [] (p ∷ points) row more told last = absurd told
AreTold-push most (r ∷ rows) [] row more told last = absurd told

lines-push : (most : ℕ) (rows : List RowValue) (points : List ℕ) (row : RowValue) (more : ℕ) → AreTold most rows points
    → lines_text (rows ++ row ∷ []) (points ++ more ∷ []) ≡ lines_text rows points ++ row_line row more
lines-push most [] [] row more told = append-nil (row_line row more)
lines-push most (r ∷ rows) (p ∷ points) row more told =
    ap (λ x. row_line r p ++ x) (lines-push most rows points row more told.1) ∙ sym (append_assoc (row_line r p) (lines_text rows points) (row_line row more))
lines-push most [] (p ∷ points) row more told = absurd told
lines-push most (r ∷ rows) [] row more told = absurd told

sum_of-push : (points : List ℕ) (more : ℕ) → sum_of (points ++ more ∷ []) ≡ sum_of points + more
sum_of-push [] more = omega arith
sum_of-push (p ∷ points) more = omega (arith, sum_of-push points more)

graded-push : (rows : List RowValue) (row : RowValue) → graded (rows ++ row ∷ []) ≡ graded rows + count_one row.standing
graded-push rows row = sum_by-append (λ (r : RowValue). cond (is_graded r) 1 0) rows (row ∷ []) ∙ ap (λ n. graded rows + n) (omega (arith, sum_by-cons (λ (r : RowValue). cond (is_graded r) 1 0) row []))

-- one row more was told
pub Lists-push : (most : ℕ) (rows : List RowValue) (before mid after : List ℕ) (count total : ℕ) (row : RowValue) (more : ℕ) → Lists most rows before mid count total
    → IsTold most row.standing more → after ≡ mid ++ row_line row more → Lists most (rows ++ row ∷ []) before after (count + count_one row.standing) (total + more)
Lists-push most rows before mid after count total row more lists told text = record {
  points = lists.points ++ more ∷ [];
  told = AreTold-push most rows lists.points row more lists.told told;
  text = text ∙ ap (λ x. x ++ row_line row more) lists.text ∙ append_assoc before (lines_text rows lists.points) (row_line row more)
      ∙ ap (λ x. before ++ x) (sym (lines-push most rows lists.points row more lists.told));
  count_is = ap (λ n. n + count_one row.standing) lists.count_is ∙ sym (graded-push rows row);
  total = ap (λ n. n + more) lists.total ∙ sym (sum_of-push lists.points more);
}

-- the points of an id are at most the greatest that it may have
pub told_most : (most : ℕ) (standing : Standing) (points : ℕ) → IsTold most standing points → points ≤ most
told_most most (Scored score) points told = told.0
told_most most Unknown points told = omega (arith, told)
told_most most Empty points told = omega (arith, told)

pub count_one-le : (standing : Standing) → count_one standing ≤ 1
count_one-le (Scored score) = omega arith
count_one-le Unknown = omega arith
count_one-le Empty = omega arith

-- a book that tells the same holds the same
pub Holds-same : (before after : BookValue) (entries : List Entry) → SameContents before after → Holds before entries → Holds after entries
Holds-same before after entries same holds = record {
  rows = same.rows ∙ holds.rows;
  standing = λ key id. same.standing key id ∙ holds.standing key id;
  placed = same.placed ∙ holds.placed;
  placement = λ key link user. same.placement key link user ∙ holds.placement key link user;
}

take-suc : {X : Type 0} (xs : List X) (place : ℕ) (x : X) → slice_get xs place ≡ Some x → take (suc place) xs ≡ take place xs ++ x ∷ []
take-suc [] place x is = absurd (cc)
take-suc (y ∷ xs) zero x is = let same : y ≡ x = cc in ap (λ z. z ∷ []) same
take-suc (y ∷ xs) (suc place) x is = ap (λ z. y ∷ z) (take-suc xs place x is)

-- one place more
pub take-next : {X : Type 0} (xs : List X) (place : ℕ) (x : X) → slice_get xs place ≡ Some x → take (place + 1) xs ≡ take place xs ++ x ∷ []
take-next xs place x is =
    let next : place + 1 ≡ suc place = omega arith in
    ap (λ n. take n xs) next ∙ take-suc xs place x is

-- ---- the total

near-cons : (most : ℕ) (standing : Standing) (r : RowValue) (rows : List RowValue) (p : ℕ) (points : List ℕ) → r.standing ≡ standing → IsTold most standing p
    → (sum_of points * 10 ^ 30 + graded rows ≤ exact most rows + graded rows * 10 ^ 30) × (exact most rows + graded rows ≤ sum_of points * 10 ^ 30 + graded rows * 10 ^ 30)
    → (sum_of (p ∷ points) * 10 ^ 30 + graded (r ∷ rows) ≤ exact most (r ∷ rows) + graded (r ∷ rows) * 10 ^ 30) × (exact most (r ∷ rows) + graded (r ∷ rows) ≤ sum_of (p ∷ points) * 10 ^ 30 + graded (r ∷ rows) * 10 ^ 30)
near-cons most (Scored score) r rows p points is told near =
    let count : graded (r ∷ rows) ≡ 1 + graded rows = sum_by-cons (λ (x : RowValue). cond (is_graded x) 1 0) r rows ∙ ap (λ (s : Standing). cond (is_scored s) 1 0 + graded rows) is in
    let share : exact most (r ∷ rows) ≡ score * most + exact most rows = sum_by-cons (λ (x : RowValue). exact_of most x.standing) r rows ∙ ap (λ (s : Standing). exact_of most s + exact most rows) is in
    (omega (arith, count, share, told.1, told.2, near.0, near.1), omega (arith, count, share, told.1, told.2, near.0, near.1))
near-cons most Unknown r rows p points is told near =
    let count : graded (r ∷ rows) ≡ 0 + graded rows = sum_by-cons (λ (x : RowValue). cond (is_graded x) 1 0) r rows ∙ ap (λ (s : Standing). cond (is_scored s) 1 0 + graded rows) is in
    let share : exact most (r ∷ rows) ≡ 0 + exact most rows = sum_by-cons (λ (x : RowValue). exact_of most x.standing) r rows ∙ ap (λ (s : Standing). exact_of most s + exact most rows) is in
    (omega (arith, count, share, told, near.0, near.1), omega (arith, count, share, told, near.0, near.1))
near-cons most Empty r rows p points is told near =
    let count : graded (r ∷ rows) ≡ 0 + graded rows = sum_by-cons (λ (x : RowValue). cond (is_graded x) 1 0) r rows ∙ ap (λ (s : Standing). cond (is_scored s) 1 0 + graded rows) is in
    let share : exact most (r ∷ rows) ≡ 0 + exact most rows = sum_by-cons (λ (x : RowValue). exact_of most x.standing) r rows ∙ ap (λ (s : Standing). exact_of most s + exact most rows) is in
    (omega (arith, count, share, told, near.0, near.1), omega (arith, count, share, told, near.0, near.1))

-- each grade is less than a point away from its share
near-both : (most : ℕ) (rows : List RowValue) (points : List ℕ) → AreTold most rows points
    → (sum_of points * 10 ^ 30 + graded rows ≤ exact most rows + graded rows * 10 ^ 30) × (exact most rows + graded rows ≤ sum_of points * 10 ^ 30 + graded rows * 10 ^ 30)
near-both most [] [] told = (omega arith, omega arith)
near-both most [] (p ∷ points) told = absurd told
near-both most (r ∷ rows) [] told = absurd told
near-both most (r ∷ rows) (p ∷ points) told =
    near-cons most r.standing r rows p points refl told.0 (near-both most rows points told.1)

none-cons : (most : ℕ) (standing : Standing) (r : RowValue) (rows : List RowValue) (p : ℕ) → r.standing ≡ standing → IsTold most standing p → graded (r ∷ rows) ≡ 0 → (p ≡ 0) × (graded rows ≡ 0)
none-cons most (Scored score) r rows p is told none =
    let count : graded (r ∷ rows) ≡ 1 + graded rows = sum_by-cons (λ (x : RowValue). cond (is_graded x) 1 0) r rows ∙ ap (λ (s : Standing). cond (is_scored s) 1 0 + graded rows) is in
    absurd (omega (arith, count, none))
none-cons most Unknown r rows p is told none =
    let count : graded (r ∷ rows) ≡ 0 + graded rows = sum_by-cons (λ (x : RowValue). cond (is_graded x) 1 0) r rows ∙ ap (λ (s : Standing). cond (is_scored s) 1 0 + graded rows) is in
    (told, omega (arith, count, none))
none-cons most Empty r rows p is told none =
    let count : graded (r ∷ rows) ≡ 0 + graded rows = sum_by-cons (λ (x : RowValue). cond (is_graded x) 1 0) r rows ∙ ap (λ (s : Standing). cond (is_scored s) 1 0 + graded rows) is in
    (told, omega (arith, count, none))

-- nothing is told where nothing has a grade
none-told : (most : ℕ) (rows : List RowValue) (points : List ℕ) → AreTold most rows points → graded rows ≡ 0 → sum_of points ≡ 0
none-told most [] [] told none = refl
none-told most [] (p ∷ points) told none = absurd told
none-told most (r ∷ rows) [] told none = absurd told
none-told most (r ∷ rows) (p ∷ points) told none =
    let parts = none-cons most r.standing r rows p refl told.0 none in
    omega (arith, parts.0, none-told most rows points told.1 parts.1)

pub total : TotalIsNear
total most rows points told =
    let near = near-both most rows points told in
    record {
      none = none-told most rows points told;
      above = λ some. omega (arith, near.0, some);
      below = λ some. omega (arith, near.1, some);
    }
