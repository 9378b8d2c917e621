use Rattle.std.proofs.Common.{◌≡◌, ◌++◌, ◌∷◌, [], List, ap, ◌∙◌, subst}
use Rattle.lti_outside.specs.declared.pairs.Pair.{Pair}
use Rattle.oauth_text.specs.UrlView.{parts_of}
use Rattle.oauth_request.specs.Protocol.{signature_name}
use Rattle.oauth_request.specs.Signing.{form_pairs, pair, IsSignatureOf, protocol_pairs, callback_pair}
use Rattle.oauth_request.proofs.signing.sign_form.Goals as goal

pub returns : goal.returns
returns c =
    let listed : c.push.new.list ≡ form_pairs c.args.fields.now c.args.key.now c.args.moment c.args.nonce.now
    = c.in_ok-push.ensures
    ∙ ap (λ (xs : List Pair). xs ++ callback_pair ∷ [])
    (c.in_ok-push_protocol.ensures ∙ ap (λ (xs : List Pair). xs ++ protocol_pairs c.args.key.now c.args.moment c.args.nonce.now) c.in_ok-list.ensures) in
    record {
      text = c.in_ok-text.text;
      signature = subst (λ (xs : List Pair). IsSignatureOf (parts_of c.args.url.now) xs c.args.secret.now c.in_ok-text.text) listed c.in_ok-text.ensures;
      is = c.in_ok-push_field.ensures ∙ (λ i. listed i ++ pair signature_name (c.get.ensures i) ∷ []);
    }
