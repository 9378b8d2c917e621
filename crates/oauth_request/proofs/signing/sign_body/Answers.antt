use Rattle.std.proofs.Common.{◌≡◌, ◌++◌, ◌∷◌, [], List, true, false, sym, ap, ◌∙◌, subst}
use Rattle.base64.specs.Engines.{standard}
use Rattle.base64.specs.GeneralPurpose.{encode_of}
use Rattle.sha1.specs.Sha1.{sha1}
use Rattle.oauth_text.specs.UrlView.{parts_of}
use Rattle.lti_outside.specs.declared.pairs.Pair.{Pair}
use Rattle.oauth_header.specs.Header.{IsHeader, header_pairs}
use Rattle.oauth_header.specs.Written.{header_text}
use Rattle.oauth_request.specs.Protocol.{body_hash_name, signature_name}
use Rattle.oauth_request.specs.Signing.{body_pairs, pair, protocol_pairs, IsSignatureOf}
use Rattle.oauth_request.proofs.SigningLemmas.{can}
use Rattle.oauth_request.proofs.signing.sign_body.Goals as goal

pub write-requires : goal.write-requires
write-requires c = rw (c.in_ok-push_field-2.ensures, c.in_ok-push_field.ensures, c.in_ok-push_protocol.ensures, c.new-list.ensures) (can _ _ _ _ _)

pub returns : goal.returns
returns c =
    let listed : c.push_field.new.list ≡ body_pairs c.args.key.now c.args.moment c.args.nonce.now c.args.body.list
    = c.in_ok-push_field.ensures
    ∙ (λ i. (c.in_ok-push_protocol.ensures ∙ ap (λ (xs : List Pair). xs ++ protocol_pairs c.args.key.now c.args.moment c.args.nonce.now) c.new-list.ensures) i
    ++ pair body_hash_name ((c.get-2.ensures ∙ c.in_ok-sum.ensures ∙ ap (encode_of standard) (c.finish.ensures c.get.result.now (c.feed.ensures [] c.start-hash.ensures) ∙ ap sha1 c.get.ensures)) i) ∷ []) in
    let all : c.push_field-2.new.list ≡ body_pairs c.args.key.now c.args.moment c.args.nonce.now c.args.body.list ++ pair signature_name c.in_ok-text.text ∷ []
    = c.in_ok-push_field-2.ensures ∙ (λ i. listed i ++ pair signature_name (c.get-3.ensures i) ∷ []) in
    record {
      text = c.in_ok-text.text;
      signature = subst (λ (xs : List Pair). IsSignatureOf (parts_of c.args.url.now) xs c.args.secret.now c.in_ok-text.text) listed c.in_ok-text.ensures;
      is = λ i. record {
        method = c.in_ok-new.ensures i;
        path = c.in_ok-copy.ensures i;
        query = c.in_ok-copy-2.ensures i;
        host_name = c.in_ok-copy-3.ensures.name i;
        host_port = c.in_ok-copy-3.ensures.port i;
        media = c.in_ok-new-2.ensures i;
        encoded = false;
        authorization = (c.in_ok-write.ensures.text ∙ ap header_text all) i;
        body = c.args.body.list;
        close = true;
      };
      header = subst IsHeader (c.in_ok-write.ensures.text ∙ ap header_text all) c.in_ok-write.ensures.header;
      header_is = ap header_pairs (sym (c.in_ok-write.ensures.text ∙ ap header_text all)) ∙ c.in_ok-write.ensures.back ∙ all;
    }
