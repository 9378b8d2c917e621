use Rattle.oauth_request.proofs.KeyLemmas.{short_key}
use Rattle.oauth_request.proofs.keys.Keys.secret.Goals as goal

pub returns-clause-short : goal.returns-clause-short
returns-clause-short c =
    short_key _ c.in_ok-pair.pair.now _ (rw c.as_slice.ensures c.self.invariant) c.in_ok-pair.ensures
