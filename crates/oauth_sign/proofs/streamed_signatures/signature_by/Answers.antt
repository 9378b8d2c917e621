use Rattle.std.proofs.Common.{map, refl, ap, ◌∙◌}
use Rattle.base64.specs.Engines.{standard}
use Rattle.base64.specs.GeneralPurpose.{encode_of}
use Rattle.oauth_text.specs.Normal.{joined}
use Rattle.oauth_text.specs.Order.{escaped_parameter}
use Rattle.oauth_sign.specs.Hmac.{hmac}
use Rattle.oauth_sign.specs.Signature.{base_text, signing_key}
use Rattle.oauth_sign.proofs.streamed_signatures.signature_by.Goals as goal

pub returns : goal.returns
returns c = λ secret token_secret started.
    let order = map escaped_parameter c.in_ok-order.order.items in
    let key = signing_key secret token_secret in
    record {
      base = base_text c.args.method.now c.args.uri.now (joined order);
      base_of = record { normal = joined order; normal_of = record { order = order; order_of = c.in_ok-order.ensures; is = refl }; is = refl };
      is =
          c.from_string.ensures
          ∙ c.in_ok-encode.ensures.text
          ∙ ap (encode_of standard) (c.code_of-code.ensures key started
          ∙ ap (λ items. hmac key (base_text c.args.method.now c.args.uri.now (joined (map escaped_parameter items)))) c.deref.ensures.value);
    }
