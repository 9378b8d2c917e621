use Rattle.std.proofs.Common.{refl, arith, rules}
use Rattle.std.proofs.lemmas.Grind.{common_steps}
use Rattle.lti_words.proofs.command_words.check_words.Goals as goal

pub returns-in-Ok : goal.returns-in-Ok
returns-in-Ok c = record {
  named = search rules;
  url_is = c.in-Ok.ensures.found;
  key_is = refl;
  key_some = grind (arith, common_steps);
  key_short = omega arith;
  secret_is = refl;
  moment_is = grind (arith, common_steps);
}

pub returns-in-Err-BadUrl : goal.returns-in-Err-BadUrl
returns-in-Err-BadUrl c = λ check is. c.in-Err-BadUrl.ensures.bad (cc) check.url is.url_is
