use Rattle.std.proofs.Common.{map}
use Rattle.std.proofs.lemmas.Str.{IsAscii-take, IsAscii-drop}
use Rattle.httparse.specs.Spans.{header_bytes}
use Rattle.http_wire.proofs.HeaderLemmas.{authorization_is_ascii, media_is_ascii, target_is_ascii}
use Rattle.http_wire.proofs.head.keep.Goals as goal

pub text_of-requires-2 : goal.text_of-requires-2
text_of-requires-2 c = rw c.split_target.ensures.path (IsAscii-take c.args.line.now.target.now _ (target_is_ascii c.args.line.now.target.now c.requires.target))

pub text_of-requires-3 : goal.text_of-requires-3
text_of-requires-3 c = rw c.split_target.ensures.query (IsAscii-drop c.args.line.now.target.now _ (target_is_ascii c.args.line.now.target.now c.requires.target))

pub media_of-requires : goal.media_of-requires
media_of-requires c = rw c.first_or_empty-media.ensures (media_is_ascii (map (header_bytes c.args.head.now) c.args.headers.now) c.requires.readable)

pub text_of-requires-4 : goal.text_of-requires-4
text_of-requires-4 c = rw c.first_or_empty-authorization.ensures (authorization_is_ascii (map (header_bytes c.args.head.now) c.args.headers.now) c.requires.readable)
