use Rattle.std.proofs.Common.{sym, subst}
use Rattle.oauth_request.specs.Signing.{HoldsNone}
use Rattle.lti_consumer.proofs.FieldLemmas.{holds_none}
use Rattle.lti_consumer.proofs.LaunchLemmas.{form_call}
use Rattle.lti_consumer.proofs.forms.launch_form.Goals as goal

pub sign_form-requires-clause-fields : goal.sign_form-requires-clause-fields
sign_form-requires-clause-fields c = subst HoldsNone (sym c.in_ok-fields.ensures) (holds_none c.args.terms.now)

pub returns-clause-launch : goal.returns-clause-launch
returns-clause-launch c = form_call c.args.terms.now c.requires.link c.in_ok-fields.ensures c.in_ok-form.ensures
