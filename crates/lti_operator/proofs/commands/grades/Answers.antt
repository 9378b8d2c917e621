use Rattle.std.proofs.Common.{[], None, refl}
use Rattle.lti_operator.specs.Ladder.Ladder.{no_journal, own}
use Rattle.lti_operator.proofs.LadderLemmas.{over_what_was_read}
use Rattle.lti_operator.proofs.commands.grades.Goals as goal

pub returns-in-Err : goal.returns-in-Err
returns-in-Err g c = λ source random. let fails = c.in-Err.ensures.unmounted in
    no_journal None (refl, refl) fails.fault fails.unmounted refl fails.status_is

pub returns : goal.returns
returns g c = λ source random. own None (refl, refl) c.in-Ok.office c.in-Ok.ensures.mounted [] refl
    (c.close.ensures, c.report-ended.result, over_what_was_read _ _ _ _ c.in-Ok.ensures.mounted c.book.result.now _ c.book.ensures.book c.report-ended.ensures, c.status_of.ensures)
