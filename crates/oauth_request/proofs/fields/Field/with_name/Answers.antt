use Rattle.std.proofs.Common.{◌∙◌, sym}
use Rattle.oauth_request.proofs.ProtocolLemmas.{not_prefixed}
use Rattle.oauth_request.proofs.fields.Field.with_name.Goals as goal

pub returns-then-not-is_prefixed : goal.returns-then-not-is_prefixed
returns-then-not-is_prefixed c = not_prefixed c.args.name.now (sym c.is_prefixed.ensures ∙ c.if-not-is_prefixed.true)
