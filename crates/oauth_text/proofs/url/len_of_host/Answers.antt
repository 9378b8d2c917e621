use Rattle.std.proofs.Common.{◌==◌, ◌||◌}
use Rattle.oauth_text.proofs.PlaceLemmas.{position_none}
use Rattle.oauth_text.proofs.url.len_of_host.Goals as goal

pub returns-in-None-clause-len : goal.returns-in-None-clause-len
returns-in-None-clause-len c = position_none (λ b. b == 47 || b == 63) c.args.rest.now c.in-None.ensures
