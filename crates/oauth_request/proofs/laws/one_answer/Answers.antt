use Rattle.oauth_request.proofs.OneAnswerLemmas.{one_answer}
use Rattle.oauth_request.proofs.laws.one_answer.Goals as goal

pub returns : goal.returns
returns c = one_answer
