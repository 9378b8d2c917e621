use Rattle.std.proofs.Common.{◌∙◌, sym}
use Rattle.oauth_text.proofs.TargetLemmas.{IsAscii-query}
use Rattle.oauth_text.proofs.url.read_parts.Goals as goal

pub ascii_str-requires-2 : goal.ascii_str-requires-2
ascii_str-requires-2 c = rw c.split_target.ensures.query (IsAscii-query c.split_at.result.1.now (sym c.are_target_bytes.ensures ∙ c.if-not-are_target_bytes.false))
