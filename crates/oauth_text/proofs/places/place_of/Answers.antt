use Rattle.std.proofs.Common.{◌==◌}
use Rattle.oauth_text.proofs.PlaceLemmas.{position_none}
use Rattle.oauth_text.proofs.places.place_of.Goals as goal

pub returns-in-None-clause-place : goal.returns-in-None-clause-place
returns-in-None-clause-place c = position_none (λ b. b == c.args.byte) c.args.text.now c.in-None.ensures
