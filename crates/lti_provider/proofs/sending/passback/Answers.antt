use Rattle.http_wire.specs.Message.{parts_of}
use Rattle.oauth_text.specs.UrlView as url_view
use Rattle.lti_provider.specs.Passback.{Sending}
use Rattle.lti_provider.proofs.PassbackLemmas.{passed_back}
use Rattle.lti_provider.proofs.sending.passback.Goals as goal

pub returns-in-Ok : goal.returns-in-Ok
returns-in-Ok g c =
    let sending : Sending
    = record { url = url_view.parts_of c.args.url.now; outcome = c.args.outcome.now; key = c.args.key.now; secret = c.args.secret.now; moment = c.args.moment; nonce = c.args.nonce.now } in
    passed_back sending c.args.limits.now (g.L.Outside.traffic c.args.link.now) (g.L.Outside.traffic c.write_request.new.sink) (g.L.Outside.traffic c.made.new.link)
    (parts_of c.in_ok-request.request) c.made.result c.in_ok-request.ensures.posted c.in-Ok.ensures.written c.made.ensures
