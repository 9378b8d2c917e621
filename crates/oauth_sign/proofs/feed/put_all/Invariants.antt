use Rattle.std.proofs.Common.{◌≡◌, ◌≤◌, ◌+◌, ◌*◌, ◌++◌, take, length, flat_map}
use Rattle.oauth_text.specs.Escape.{twice_escaped_byte}
use Rattle.oauth_sign.proofs.feed.put_all.Given as goal

-- the bytes so far were written
abbrev pub invariant-loop-byte : goal.invariant-loop-byte
invariant-loop-byte l = record {
  len : length l.block ≡ length l.fn.block;
  end : l.end ≤ l.at + 5 * l.byte-index;
  put : take l.end l.block ≡ take l.at l.fn.block ++ flat_map twice_escaped_byte (take l.byte-index l.bytes);
}
