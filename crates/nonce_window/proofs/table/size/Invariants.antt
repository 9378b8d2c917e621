use Rattle.std.proofs.Common.{◌≡◌, ◌≤◌, ◌<◌, ◌+◌, length, filter, nat_le}
use Rattle.std.specs.List.{AllByRecursion, sum_by}
use Rattle.nonce_window.specs.Nonces.{entries_of}
use Rattle.nonce_window.specs.Sizes.{capped, entry_size}
use Rattle.nonce_window.proofs.table.size.Given as goal

abbrev pub invariant-loop-place : goal.invariant-loop-place
invariant-loop-place l = record {
  all : capped (l.total + sum_by entry_size (entries_of l.keys (filter (λ e. nat_le l.first e.0.0) l.place-iterator))) ≡ capped (sum_by entry_size (entries_of l.keys (filter (λ e. nat_le l.first e.0.0) l.table.entries)));
  numbered : AllByRecursion (λ e. e.0.1 < length l.keys) l.place-iterator;
  fits : l.total ≤ 18446744073709551615;
}
