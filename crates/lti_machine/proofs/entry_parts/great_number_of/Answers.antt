use Rattle.std.proofs.Common.{rules}
use Rattle.lti_machine.proofs.NumberLemmas.{be_bytes_16}
use Rattle.lti_machine.proofs.entry_parts.great_number_of.Goals as goal

pub returns : goal.returns
returns c = be_bytes_16 c.args.bytes _ (search rules) (search rules) c.from_be_bytes.ensures
