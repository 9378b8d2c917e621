use Rattle.std.proofs.Common.{◌≡◌, ◌++◌, map}
use Rattle.std.specs.List.{AllByRecursion}
use Rattle.std.specs.Vec.Iter.{into_iter_items}
use Rattle.nonce_window.specs.Minutes.{stamps_at}
use Rattle.nonce_window.specs.Nonces.{plain_in, IsWithin}
use Rattle.nonce_window.specs.Triples.{plain_of}
use Rattle.nonce_window.proofs.minute.list_nonce.Given as goal

abbrev pub invariant-loop-second : goal.invariant-loop-second
invariant-loop-second l = record {
  all : map plain_of l.triples.items ++ map (plain_in l.key l.minute) (stamps_at (l.nonce, into_iter_items l.second-iterator)) ≡ map plain_of l.fn.triples.items ++ map (plain_in l.key l.minute) (stamps_at (l.nonce, l.fn.seconds));
  within : AllByRecursion (IsWithin l.minute) (stamps_at (l.nonce, into_iter_items l.second-iterator));
}
