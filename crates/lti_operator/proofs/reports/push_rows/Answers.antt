use Rattle.std.proofs.Common.{◌≡◌, ◌+◌, Some, take, slice_get, string_bytes, rules, arith}
use Rattle.lti_machine.specs.Rows.{RowValue, rows_of}
use Rattle.lti_operator.proofs.ReportLemmas.{take-next, Lists-push, told_most, count_one, count_one-le}
use Rattle.lti_operator.proofs.reports.push_rows.Goals as goal
use Rattle.lti_operator.proofs.reports.push_rows.Goals.{in-Scored, in_default-standing}

pub loop-place-preserved : goal.loop-place-preserved
loop-place-preserved g c =
    let row : RowValue = record { key = c.in-Some.row.key.now; id = c.in-Some.row.id.now; standing = c.in-Some.row.standing } in
    let counted : c.match-row-2.graded ≡ c.loop-place.graded + count_one c.in-Some.row.standing = elim c.match-row-2.branch [
      | in-Scored w ↦ let is : c.match-row-2.graded ≡ c.loop-place.graded + count_one c.in-Some.row.standing = search rules in is
      | in_default-standing w ↦ let is : c.match-row-2.graded ≡ c.loop-place.graded + count_one c.in-Some.row.standing = search rules in is
    ] in
    let widened : c.from-points.result ≡ c.in_ok-more.more = search rules in
    let few = told_most c.args.most c.in-Some.row.standing c.in_ok-more.more c.in_ok-more.ensures.told in
    record {
      told = λ entries holds.
          let is : slice_get (rows_of entries) c.loop-place.place ≡ Some row = search rules in
          let pushed = Lists-push c.args.most (take c.loop-place.place (rows_of entries)) (string_bytes c.args.out.now) (string_bytes c.loop-place.out) (string_bytes c.push_row.new.out)
          c.loop-place.graded c.loop-place.points row c.in_ok-more.more (c.loop-place.invariant.told entries holds) c.in_ok-more.ensures.told c.in_ok-more.ensures.text in
          rw (counted, widened, take-next (rows_of entries) c.loop-place.place row is) pushed;
      count = c.loop-place.invariant.count;
      few_graded = omega (arith, counted, count_one-le c.in-Some.row.standing, c.loop-place.invariant.few_graded);
      few_points = omega (arith, widened, few, c.requires.greatest, c.loop-place.invariant.few_points);
      within = omega (arith, c.loop-place-test.true);
    }
