use Rattle.std.proofs.Common.{◌≤◌, take}
use Rattle.std.specs.Str.{str_to_ascii_uppercase}
use Rattle.oauth_sign.specs.Feed.{Takes}
use Rattle.oauth_sign.proofs.feed.Feed.push_upper_case.Given as goal

-- the bytes so far were added
abbrev pub invariant-loop-byte : goal.invariant-loop-byte
invariant-loop-byte l = record {
  room : l.self.len ≤ 512;
  taken : Takes l.initial.self l.self (str_to_ascii_uppercase (take l.byte-index l.byte-items));
}
