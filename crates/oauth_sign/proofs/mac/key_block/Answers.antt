use Rattle.std.proofs.Common.{◌++◌, ap, arith, length, false, ◌≡◌}
use Rattle.std.proofs.lemmas.List.{drop-replicate}
use Rattle.std.proofs.lemmas.Bool.Decides.{nat_tests}
use Rattle.std.specs.Bool.{nat_lt}
use Rattle.oauth_sign.proofs.mac.key_block.Goals as goal

pub returns-else-key-gt-BLOCK_LEN : goal.returns-else-key-gt-BLOCK_LEN
returns-else-key-gt-BLOCK_LEN c =
    let fits : nat_lt 64 (length c.args.key.now) ≡ false = grind (arith, nat_tests) in
    rw (fits, c.put_front-else-key-gt-BLOCK_LEN.ensures) (ap (λ x. c.args.key.now ++ x) (drop-replicate _ 64 0))
