use Rattle.std.proofs.Common.{◌≤◌, take, flat_map}
use Rattle.oauth_text.specs.Escape.{twice_escaped_byte}
use Rattle.oauth_sign.specs.Feed.{Takes}
use Rattle.oauth_sign.proofs.feed.Feed.push_many.Given as goal

-- the bytes so far were added
abbrev pub invariant-loop-byte : goal.invariant-loop-byte
invariant-loop-byte l = record {
  room : l.self.len ≤ 512;
  taken : Takes l.initial.self l.self (flat_map twice_escaped_byte (take l.byte-index l.bytes));
}
