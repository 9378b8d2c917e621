use Rattle.std.proofs.Common.{refl}
use Rattle.http_wire.proofs.TrimLemmas.{trim_end-is}
use Rattle.http_wire.proofs.values.media_of.Goals as goal

pub returns : goal.returns
returns c = rw (c.from_string.ensures, c.make_ascii_lowercase.ensures.bytes, c.in_ok-media.ensures.ok, c.ascii_str.ensures, c.trim_end.ensures.trimmed, trim_end-is, c.place_of.ensures.place) refl
