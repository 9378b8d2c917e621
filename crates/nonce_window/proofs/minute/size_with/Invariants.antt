use Rattle.std.proofs.Common.{◌≡◌, ◌≤◌, ◌+◌, ℕ, map}
use Rattle.std.specs.List.{sum_by}
use Rattle.nonce_window.specs.Minutes.{stamps_of}
use Rattle.nonce_window.specs.Nonces.{plain_in}
use Rattle.nonce_window.specs.Sizes.{capped, entry_size}
use Rattle.nonce_window.proofs.minute.size_with.Given as goal

abbrev pub invariant-loop-nonce : goal.invariant-loop-nonce
invariant-loop-nonce l = record {
  all : (minute : ℕ) → capped (l.total + sum_by entry_size (map (plain_in l.key minute) (stamps_of l.nonce-iterator))) ≡ capped (l.size + sum_by entry_size (map (plain_in l.key minute) (stamps_of l.nonces.entries)));
  fits : l.total ≤ 18446744073709551615;
}
