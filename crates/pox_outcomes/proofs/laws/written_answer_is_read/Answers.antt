use Rattle.pox_outcomes.proofs.AnswerBackLemmas.{written_answer_is_read}
use Rattle.pox_outcomes.proofs.laws.written_answer_is_read.Goals as goal

pub returns : goal.returns
returns c = written_answer_is_read
