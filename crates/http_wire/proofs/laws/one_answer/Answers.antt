use Rattle.http_wire.proofs.AnswerUnique.{one_answer}
use Rattle.http_wire.proofs.laws.one_answer.Goals as goal

pub returns : goal.returns
returns c = one_answer
