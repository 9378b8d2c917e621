use Rattle.std.proofs.Common.{[]}
use Rattle.oauth_sign.specs.BaseUri.{base_uri_of}
use Rattle.oauth_sign.specs.Signature.{IsSignature}
use Rattle.oauth_sign.proofs.SignatureLemmas.{signature_tested}
use Rattle.oauth_request.proofs.checking.is_signature.Goals as goal

pub returns : goal.returns
returns c =
    let uri = base_uri_of c.args.scheme c.args.request.now.host.name c.args.request.now.host.port c.args.request.now.path in
    let is : IsSignature c.args.request.now.method uri c.args.pairs.now c.args.secret.now [] c.in_ok-text.text =
    rw (← c.get.ensures, ← c.in_ok-uri.ensures, ← c.get-3.ensures, ← c.get-2.ensures) c.in_ok-text.ensures.signature in
    signature_tested _ _ _ _ _ c.in_ok-text.text c.args.sent.now c.is_same-holds.result c.is_same-holds.ensures is
