use Rattle.std.proofs.Common.{◌≡◌, ℕ, List, [], ◌++◌, codes, subst, ap, ◌∙◌}
use Rattle.std.specs.Prelude.{OnOk, OnErr}
use Rattle.lti_outside.specs.Traffic.{Moves, no_fault, GivesFront}
use Rattle.http_wire.specs.Message.{RequestParts, parts_of}
use Rattle.http_wire.specs.Written.{where_some, request_text}
use Rattle.http_wire.proofs.WrittenLemmas.{port_pieces, pieces_of, pieces_are_text}
use Rattle.http_wire.proofs.written.give_request.Given.{Over}
use Rattle.http_wire.proofs.written.give_request.Goals as goal

-- the pieces that were given are the request's text
text_is : (g : Over) (c : goal.After-give_pieces g)
    → c.as_bytes.result.now ++ (c.beside.result.now ++ (c.as_bytes-2.result.now ++ (c.where_some.result.now ++ (c.as_bytes-query.result.now
    ++ (c.version_end.result.now ++ (c.beside-2.result.now ++ (c.as_bytes-3.result.now ++ (c.colon.result.now ++ (c.args.port.now ++ (c.beside-3.result.now
    ++ (c.where_some-2.result.now ++ (c.as_bytes-media.result.now ++ (c.where_some-3.result.now ++ (c.where_some-4.result.now ++ (c.as_bytes-authorization.result.now ++ (c.where_some-5.result.now
    ++ (c.beside-4.result.now ++ (c.args.length.now ++ (c.beside-5.result.now ++ (c.get-7.result.now ++ []))))))))))))))))))))
    ≡ request_text (parts_of c.args.request.now)
text_is g c =
    let parts : RequestParts = parts_of c.args.request.now in
    let query : c.as_bytes-query.result.now ≡ parts.query = c.as_bytes-query.ensures.value ∙ c.get.ensures in
    let media : c.as_bytes-media.result.now ≡ parts.media = c.as_bytes-media.ensures.value ∙ c.get-2.ensures in
    let authorization : c.as_bytes-authorization.result.now ≡ parts.authorization = c.as_bytes-authorization.ensures.value ∙ c.get-3.ensures in
    let method : c.as_bytes.result.now ≡ parts.method = c.as_bytes.ensures.value ∙ c.get-4.ensures in
    let path : c.as_bytes-2.result.now ≡ parts.path = c.as_bytes-2.ensures.value ∙ c.get-5.ensures in
    let name : c.as_bytes-3.result.now ≡ parts.host_name = c.as_bytes-3.ensures.value ∙ c.get-6.ensures in
    let mark = c.where_some.ensures ∙ ap (λ v. where_some v (codes "?")) query in
    let media_name = c.where_some-2.ensures ∙ ap (λ v. where_some v (codes "Content-Type: ")) media in
    let media_end = c.where_some-3.ensures ∙ ap (λ v. where_some v (codes "\r\n")) media in
    let authorization_name = c.where_some-4.ensures ∙ ap (λ v. where_some v (codes "Authorization: ")) authorization in
    let authorization_end = c.where_some-5.ensures ∙ ap (λ v. where_some v (codes "\r\n")) authorization in
    let pieces
    : c.as_bytes.result.now ++ (c.beside.result.now ++ (c.as_bytes-2.result.now ++ (c.where_some.result.now ++ (c.as_bytes-query.result.now
    ++ (c.version_end.result.now ++ (c.beside-2.result.now ++ (c.as_bytes-3.result.now ++ (c.colon.result.now ++ (c.args.port.now ++ (c.beside-3.result.now
    ++ (c.where_some-2.result.now ++ (c.as_bytes-media.result.now ++ (c.where_some-3.result.now ++ (c.where_some-4.result.now ++ (c.as_bytes-authorization.result.now ++ (c.where_some-5.result.now
    ++ (c.beside-4.result.now ++ (c.args.length.now ++ (c.beside-5.result.now ++ (c.get-7.result.now ++ []))))))))))))))))))))
    ≡ pieces_of parts c.colon.result.now c.args.port.now
    = λ i.
    method i ++ (c.beside.ensures i ++ (path i ++ (mark i ++ (query i ++ (c.version_end.ensures i ++ (c.beside-2.ensures i ++ (name i ++ (c.colon.result.now ++ (c.args.port.now ++ (c.beside-3.ensures i
    ++ (media_name i ++ (media i ++ (media_end i ++ (authorization_name i ++ (authorization i ++ (authorization_end i
    ++ (c.beside-4.ensures i ++ (c.requires.length i ++ (c.beside-5.ensures i ++ (c.get-7.ensures i ++ [])))))))))))))))))))) in
    pieces ∙ pieces_are_text parts c.colon.result.now c.args.port.now (port_pieces parts.host_port c.colon.result.now c.args.port.now c.colon.ensures c.requires.port)

pub returns-clause-written : goal.returns-clause-written
returns-clause-written g c =
    subst (λ (x : List ℕ). OnOk c.give_pieces.result (Moves (g.O.Outside.traffic c.args.sink.now) (g.O.Outside.traffic c.give_pieces.new.sink) [] x no_fault)) (text_is g c)
    c.give_pieces.ensures.given

pub returns-clause-failed : goal.returns-clause-failed
returns-clause-failed g c =
    subst (λ (x : List ℕ). OnErr c.give_pieces.result (GivesFront (g.O.Outside.traffic c.args.sink.now) (g.O.Outside.traffic c.give_pieces.new.sink) x)) (text_is g c)
    c.give_pieces.ensures.failed
