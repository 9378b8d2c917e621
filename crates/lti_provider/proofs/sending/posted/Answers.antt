use Rattle.std.proofs.Common.{◌≡◌, ◌<◌, ◌^◌, List, ℕ, length, subst, refl, ap, arith}
use Rattle.oauth_text.specs.UrlView as url_view
use Rattle.oauth_request.specs.Signing.{IsSignedBody}
use Rattle.http_wire.specs.Message.{parts_of}
use Rattle.lti_provider.specs.Passback.{xml_type}
use Rattle.lti_provider.proofs.WritableLemmas.{signed_is_writable}
use Rattle.lti_provider.proofs.sending.posted.Goals as goal

pub returns-clause-posted : goal.returns-clause-posted
returns-clause-posted c = record {
  xml = c.in-Ok.ensures.xml;
  signed = subst
      (λ (body : List ℕ). IsSignedBody (url_view.parts_of c.args.url.now) xml_type body c.args.key.now c.args.secret.now c.args.moment c.args.nonce.now (parts_of c.in_ok-request.request))
      c.in-Ok.ensures.text c.in_ok-request.ensures;
}

pub returns-clause-sound : goal.returns-clause-sound
returns-clause-sound c =
    let length_is : length c.get.result.now ≡ length c.in-Ok.body.list = ap length c.get.ensures in
    let short : length c.in-Ok.body.list < 10 ^ 19 = omega (arith, length_is, c.if-get-gt-LONGEST.false) in
    signed_is_writable (url_view.parts_of c.args.url.now) xml_type c.in-Ok.body.list c.args.key.now c.args.secret.now c.args.nonce.now c.args.moment
    (parts_of c.in_ok-request.request) c.args.url.now.reading refl short c.in_ok-request.ensures
