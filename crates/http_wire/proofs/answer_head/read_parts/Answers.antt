use Rattle.std.proofs.Common.{map, sym, ◌∙◌}
use Rattle.httparse.specs.Spans.{header_bytes}
use Rattle.http_wire.proofs.HeaderLemmas.{media_is_ascii}
use Rattle.http_wire.proofs.answer_head.read_parts.Goals as goal

pub media_of-requires : goal.media_of-requires
media_of-requires c =
    rw c.first_or_empty.ensures
    (media_is_ascii (map (header_bytes c.args.head.now) c.args.headers.now) (sym c.has_bad_header.ensures ∙ c.if-has_bad_header.false))
