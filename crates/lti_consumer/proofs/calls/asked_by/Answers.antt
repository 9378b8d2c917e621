use Rattle.std.proofs.Common.{◌≡◌, ◌↔◌, ℕ, List, Some, rules, subst}
use Rattle.score_decimal.specs.Written.{IsWritten}
use Rattle.lti_consumer.proofs.calls.asked_by.Goals as goal
use Rattle.lti_consumer.proofs.calls.asked_by.Goals.{in-ReplaceResult, in-ReadResult, in-DeleteResult}

pub returns : goal.returns
returns c = record {
  score = c.read-score.result;
  is_score = λ n. subst (λ (text : List ℕ). (c.read-score.result ≡ Some n) ↔ IsWritten text n) c.get.ensures (c.read-score.ensures n);
  action_is = elim c.match-outcome.branch [ in-ReplaceResult w ↦ search rules | in-ReadResult w ↦ search rules | in-DeleteResult w ↦ search rules ];
}
