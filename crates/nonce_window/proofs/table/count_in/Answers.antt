use Rattle.std.proofs.Common.{ap, arith, length}
use Rattle.nonce_window.proofs.KeyedLemmas.{found_or}
use Rattle.nonce_window.proofs.TableLemmas.{total_later}
use Rattle.nonce_window.proofs.table.count_in.Goals as goal

pub returns-in-Some : goal.returns-in-Some
returns-in-Some c =
    omega (arith, c.count.ensures, ap (found_or 0 length) c.in-Some.ensures.value, total_later c.args.number c.args.minute c.args.table.now.entries c.requires)

pub returns-in-None : goal.returns-in-None
returns-in-None c =
    omega (arith, ap (found_or 0 length) c.in-None.ensures.value, total_later c.args.number c.args.minute c.args.table.now.entries c.requires)
