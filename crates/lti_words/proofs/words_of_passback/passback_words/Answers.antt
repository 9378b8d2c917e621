use Rattle.std.proofs.Common.{refl, rules}
use Rattle.lti_words.proofs.words_of_passback.passback_words.Goals as goal

pub returns-in-Some : goal.returns-in-Some
returns-in-Some c = record {
  named = search rules;
  score = c.in-Some.score;
  score_is = (c.in-Some.ensures c.in-Some.score).0 (cc);
  passback_is = refl;
  key_fits = search rules;
  link_fits = search rules;
  user_fits = search rules;
}
