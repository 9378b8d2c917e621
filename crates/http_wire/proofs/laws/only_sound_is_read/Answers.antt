use Rattle.http_wire.proofs.OnlyLemmas.{only_sound_is_read}
use Rattle.http_wire.proofs.laws.only_sound_is_read.Goals as goal

pub returns : goal.returns
returns c = only_sound_is_read
