use Rattle.std.proofs.Common.{rules}
use Rattle.lti_words.specs.Command.{IsCheck, texts}
use Rattle.lti_words.specs.CommandView.{check_of}
use Rattle.lti_words.proofs.WordLemmas.{IsCheck-range}
use Rattle.lti_check.proofs.tests.run_words.Goals as goal

pub check-requires-clause-range : goal.check-requires-clause-range
check-requires-clause-range g c =
    let asked : IsCheck (texts c.args.asked.now) (check_of c.in-Some-Check.asked) = search rules in
    IsCheck-range (texts c.args.asked.now) (check_of c.in-Some-Check.asked) asked
