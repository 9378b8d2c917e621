use Rattle.std.proofs.Common.{◌≡◌, ℕ, ◌+◌, ◌<◌, ◌≤◌, length, get_or}
use Rattle.lti_outside.proofs.memory_disk.mix.Given as goal

abbrev pub invariant-loop-byte : goal.invariant-loop-byte
invariant-loop-byte l = record {
  size : length l.bytes.items ≡ length l.initial.bytes.items;
  at : l.at ≡ l.place + l.byte-index;
  below : (k : ℕ) → k < l.place → get_or l.bytes.items k 0 ≡ get_or l.initial.bytes.items k 0;
  above : (k : ℕ) → l.at ≤ k → get_or l.bytes.items k 0 ≡ get_or l.initial.bytes.items k 0;
  synced : l.pick ≡ 0 → (k : ℕ) → get_or l.bytes.items k 0 ≡ get_or l.initial.bytes.items k 0;
  written : l.pick ≡ 1 → (k : ℕ) → k < l.byte-index → l.place + k < length l.bytes.items → get_or l.bytes.items (l.place + k) 0 ≡ get_or l.piece k 0;
}
