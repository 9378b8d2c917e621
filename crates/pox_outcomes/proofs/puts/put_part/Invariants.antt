use Rattle.pox_outcomes.proofs.WritingLemmas.{Puts}
use Rattle.pox_outcomes.proofs.puts.put_part.Given as goal

abbrev pub invariant-loop-place : goal.invariant-loop-place
invariant-loop-place l = Puts l.first l.last l.text l.fn.out.list l.fn.out.room l.place l.out.list l.out.room
