use Rattle.std.proofs.Common.{◌≡◌, ◌+◌, ◌++◌, map, ap, ◌∙◌, arith}
use Rattle.std.specs.List.{sum_by}
use Rattle.std.proofs.lemmas.List.{map-append}
use Rattle.std.proofs.lemmas.List.Sums.{sum_by-append}
use Rattle.nonce_window.specs.Minutes.{stamps_at, stamps_of}
use Rattle.nonce_window.specs.Nonces.{plain_in}
use Rattle.nonce_window.specs.Sizes.{capped, entry_size, used_size}
use Rattle.nonce_window.proofs.SizeLemmas.{seconds_size}
use Rattle.nonce_window.proofs.minute.size_with.Goals as goal

pub loop-nonce-preserved : goal.loop-nonce-preserved
loop-nonce-preserved c =
    record {
      all = λ minute.
          let f = plain_in c.args.key.now minute in
          let here = stamps_at (c.in-Some.nonce.now, c.in-Some.seconds.now) in
          let rest = stamps_of c.next.new.self in
          let each = c.nonce_size.result in
          let same = seconds_size c.args.key.now minute each c.in-Some.nonce.now
          (λ t. c.nonce_size.ensures t ∙ ap (λ n. capped (used_size (record { key = c.args.key.now; stamp = record { timestamp = t; nonce = n } }))) c.as_str.ensures.value)
          c.in-Some.seconds.now in
          let split = ap (λ l. sum_by entry_size (map f (stamps_of l))) c.in-Some.ensures.steps ∙ ap (sum_by entry_size) (map-append f here rest) ∙ sum_by-append entry_size (map f here) (map f rest) in
          omega (arith, same, split, c.size-total.ensures, c.loop-nonce.invariant.all minute);
      fits = omega (arith, c.size-total.ensures);
    }

pub returns : goal.returns
returns c = λ minute.
    omega (arith, c.loop-nonce.invariant.all minute, c.loop-nonce.invariant.fits, ap (λ l. sum_by entry_size (map (plain_in c.args.key.now minute) (stamps_of l))) c.in-None.ensures.steps.0)
