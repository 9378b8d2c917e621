use Rattle.lti_words.proofs.WordLemmas.{serving_is_no_command}
use Rattle.lti_words.proofs.laws.serving_is_no_command.Goals as goal

pub returns : goal.returns
returns c = serving_is_no_command
