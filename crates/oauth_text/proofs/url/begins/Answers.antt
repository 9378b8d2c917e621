use Rattle.std.proofs.Common.{rules}
use Rattle.std.proofs.lemmas.Slice.Eq.{bytes_eq-Decides}
use Rattle.oauth_text.proofs.url.begins.Goals as goal

pub returns-then-text-front : goal.returns-then-text-front
returns-then-text-front c = search (rules, bytes_eq-Decides)
