use Rattle.http_wire.proofs.BackHead.{written_is_read}
use Rattle.http_wire.proofs.laws.written_is_read.Goals as goal

pub returns : goal.returns
returns c = written_is_read
