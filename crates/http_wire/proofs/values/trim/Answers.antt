use Rattle.std.proofs.Common.{ap, ◌∙◌}
use Rattle.oauth_text.specs.Blanks as blanks
use Rattle.http_wire.proofs.TrimLemmas.{trim-is}
use Rattle.http_wire.proofs.values.trim.Goals as goal

pub returns : goal.returns
returns c = c.trim_end.ensures.trimmed ∙ ap blanks.trim_end c.trim_front.ensures.trimmed ∙ trim-is c.args.text.now
