use Rattle.std.proofs.Common.{arith}
use Rattle.oauth_text.proofs.EscapeLemmas.{unreserved_at}
use Rattle.oauth_text.proofs.escapes.is_unreserved.Goals as goal

pub returns : goal.returns
returns c = unreserved_at c.args.byte (omega arith)
