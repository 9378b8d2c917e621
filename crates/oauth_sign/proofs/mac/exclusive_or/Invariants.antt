use Rattle.std.proofs.Common.{◌≡◌, ◌++◌, map, take, drop, bit_xor}
use Rattle.oauth_sign.proofs.mac.exclusive_or.Given as goal

-- the bytes so far are combined, and the others are as they were
abbrev pub invariant-loop-byte : goal.invariant-loop-byte
invariant-loop-byte l = l.bytes ≡ map (bit_xor l.bits) (take l.byte-index l.fn.bytes) ++ drop l.byte-index l.fn.bytes
