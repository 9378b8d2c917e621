use Rattle.lti_words.proofs.WordLemmas.{words_ask_once}
use Rattle.lti_words.proofs.laws.words_ask_once.Goals as goal

pub returns : goal.returns
returns c = words_ask_once
