use Rattle.std.proofs.Common.{◌≡◌, [], take, drop}
use Rattle.oauth_request.specs.Secret.{first_key_fault, AreShort}
use Rattle.oauth_request.proofs.keys.Keys.new.Given as goal

-- no pair so far is bad
abbrev pub invariant-loop-place : goal.invariant-loop-place
invariant-loop-place l = record {
  fine : first_key_fault [] l.fn.list ≡ first_key_fault (take l.place l.fn.list) (drop l.place l.fn.list);
  short : AreShort (take l.place l.fn.list);
}
