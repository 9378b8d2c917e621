use Rattle.std.proofs.Common.{◌≡◌, ◌<◌, ◌++◌, map, length, filter, nat_le}
use Rattle.std.specs.List.{AllByRecursion}
use Rattle.nonce_window.specs.Nonces.{entries_of, AreWithin}
use Rattle.nonce_window.specs.Triples.{plain_of}
use Rattle.nonce_window.proofs.table.list.Given as goal

abbrev pub invariant-loop-place : goal.invariant-loop-place
invariant-loop-place l = record {
  all : map plain_of l.triples.items ++ entries_of l.keys (filter (λ e. nat_le l.first e.0.0) l.place-iterator) ≡ map plain_of l.fn.triples.items ++ entries_of l.keys (filter (λ e. nat_le l.first e.0.0) l.table.entries);
  numbered : AllByRecursion (λ e. e.0.1 < length l.keys) l.place-iterator;
  within : AllByRecursion AreWithin l.place-iterator;
}
