use Rattle.std.proofs.Common.{◌≡◌, ℕ, length, take}
use Rattle.oauth_text.specs.Blanks.{trim_end}
use Rattle.oauth_text.proofs.blanks.trim_end.Given as goal

abbrev pub invariant-loop-rest : goal.invariant-loop-rest
invariant-loop-rest l = record {
  same : trim_end l.fn.text ≡ trim_end l.rest;
  front : (count : ℕ) × (l.rest ≡ take count l.fn.text);
}

abbrev pub decreases-loop-rest : goal.decreases-loop-rest
decreases-loop-rest l = length l.rest
