-- A signed body that is posted to a URL can be written.
use Rattle.std.proofs.Common.{◌≡◌, true, List, ◌∷◌, [], ◌++◌, codes, refl, sym, subst}
use Rattle.std.specs.List.{AllByRecursion}
use mathlib.Core.Logic.{∥∥₁_elim}
use Rattle.std.proofs.Props.{props}
use Rattle.httparse.specs.Grammar.{is_token, is_token_byte}
use Rattle.lti_outside.specs.declared.pairs.Pair.{Pair}
use Rattle.oauth_header.specs.Header.{items_of}
use Rattle.oauth_header.specs.Written.{header_text}
use Rattle.oauth_request.specs.Protocol.{signature_name}
use Rattle.oauth_request.specs.Signing.{pair, body_pairs}
use Rattle.http_wire.specs.Written.{IsSoundRequest}
use Rattle.lti_provider.specs.Laws.{SignedIsWritable}
use Rattle.lti_provider.proofs.UrlLemmas.{fits}
use Rattle.lti_provider.proofs.HeaderLemmas.{AreBytes, read_bytes, is_value-header}

post_token : is_token (codes "POST") ≡ true
unfolding is_token_byte
post_token = refl

pub signed_is_writable : SignedIsWritable
signed_is_writable url media body key secret nonce moment q reading fine short signed =
    let front = body_pairs key moment nonce body in
    let last = pair signature_name signed.text in
    let bytes : AllByRecursion AreBytes (front ++ last ∷ [])
    = subst (λ (ps : List Pair). AllByRecursion AreBytes ps) signed.header_is (read_bytes (items_of (header_text (front ++ last ∷ []))) signed.header) in
    subst IsSoundRequest (sym signed.is) (record {
      method = post_token;
      path = ∥∥₁_elim reading (hlevel props) (λ r. (fits r.0 url r.1).path);
      query = ∥∥₁_elim reading (hlevel props) (λ r. (fits r.0 url r.1).query);
      host = ∥∥₁_elim reading (hlevel props) (λ r. let f = fits r.0 url r.1 in ∣ (f.text, f.host) ∣₁);
      media = fine;
      encoded = refl;
      authorization = is_value-header front last bytes;
      body = short;
    })
