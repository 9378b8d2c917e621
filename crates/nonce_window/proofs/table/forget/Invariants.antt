use Rattle.std.proofs.Common.{length}
use Rattle.nonce_window.proofs.ForgetLemmas.{IsForgetting}
use Rattle.nonce_window.proofs.table.forget.Given as goal

abbrev pub invariant-loop-place : goal.invariant-loop-place
invariant-loop-place l = IsForgetting l.first l.fn.table.entries l.fn.counts.items l.table.entries l.counts.items

abbrev pub decreases-loop-place : goal.decreases-loop-place
decreases-loop-place l = length l.table.entries
