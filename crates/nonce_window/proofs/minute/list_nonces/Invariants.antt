use Rattle.std.proofs.Common.{◌≡◌, ◌++◌, map}
use Rattle.std.specs.List.{AllByRecursion}
use Rattle.nonce_window.specs.Minutes.{stamps_of}
use Rattle.nonce_window.specs.Nonces.{plain_in, IsWithin}
use Rattle.nonce_window.specs.Triples.{plain_of}
use Rattle.nonce_window.proofs.minute.list_nonces.Given as goal

abbrev pub invariant-loop-nonce : goal.invariant-loop-nonce
invariant-loop-nonce l = record {
  all : map plain_of l.triples.items ++ map (plain_in l.key l.minute) (stamps_of l.nonce-iterator) ≡ map plain_of l.fn.triples.items ++ map (plain_in l.key l.minute) (stamps_of l.nonces.entries);
  within : AllByRecursion (IsWithin l.minute) (stamps_of l.nonce-iterator);
}
