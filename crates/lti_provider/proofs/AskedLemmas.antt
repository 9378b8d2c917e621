-- What is asked by a request that posts an outcome.
use Rattle.std.proofs.Common.{◌≡◌, ℕ, false, List, codes, refl, sym, ap, ◌∙◌, subst, Some, None}
use Rattle.oauth_request.proofs.BelievedLemmas.{signed_is_believed}
use Rattle.http_wire.specs.Message.{RequestParts}
use Rattle.pox_outcomes.specs.Request.{EnvelopeOf}
use Rattle.pox_outcomes.specs.Written as envelope
use Rattle.pox_outcomes.proofs.BackLemmas.{written_is_read}
use Rattle.lti_provider.specs.Before.{route_refusal}
use Rattle.lti_provider.specs.Routes.{path_of, route_at}
use Rattle.lti_provider.specs.declared.routes.Route.TheVariants.{Outcomes}
use Rattle.lti_provider.specs.Laws.{SentIsAsked}
use Rattle.lti_provider.specs.Passback.{xml_type}

at_outcomes : (q : RequestParts) → q.path ≡ path_of Outcomes → route_at q.path ≡ Some Outcomes
at_outcomes q path = ap route_at path

-- XML that is posted to the path of outcomes isn't refused by its route
routed : (q : RequestParts) → q.method ≡ codes "POST" → q.path ≡ path_of Outcomes → q.media ≡ xml_type → q.encoded ≡ false → route_refusal q ≡ None
routed q method path media encoded = rw (method, path, media, encoded) refl

pub sent_is_asked : SentIsAsked
sent_is_asked terms sending q action can are path fitting posted asked =
    let is = posted.signed.is in
    let believed
    = signed_is_believed.1 terms sending.url xml_type (envelope.request_text sending.outcome) sending.key sending.secret sending.nonce sending.moment q can refl are posted.signed in
    let placed : q.path ≡ path_of Outcomes = ap (λ (p : RequestParts). p.path) is ∙ path in
    record {
      routed = routed q (ap (λ (p : RequestParts). p.method) is) placed (ap (λ (p : RequestParts). p.media) is) (ap (λ (p : RequestParts). p.encoded) is);
      well_signed = believed.well_signed;
      says = believed.says;
      route = Outcomes;
      route_is = at_outcomes q placed;
      call = record {
        spelled = subst (λ (bytes : List ℕ). EnvelopeOf bytes sending.outcome) (sym (ap (λ (p : RequestParts). p.body) is)) (written_is_read sending.outcome posted.xml fitting);
        asked = asked;
      };
    }
