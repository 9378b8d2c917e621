use Rattle.oauth_request.proofs.ProtocolLemmas.{named_by}
use Rattle.oauth_request.proofs.fields.field_named.Goals as goal

pub returns : goal.returns
returns c = named_by c.args.name.now c.in_ok-field.field.now c.in_ok-field.ensures
