use Rattle.std.proofs.Common.{◌≡◌, drop, nat_cmp}
use Rattle.std.specs.Cmp.Lexicographic.{slice_cmp}
use Rattle.oauth_text.specs.Escape.{escape}
use Rattle.oauth_text.proofs.order.compared.Given as goal

-- what is left decides
abbrev pub invariant-loop-place : goal.invariant-loop-place
invariant-loop-place l =
    slice_cmp nat_cmp (escape l.a) (escape l.b) ≡ slice_cmp nat_cmp (escape (drop l.place l.a)) (escape (drop l.place l.b))
