use Rattle.std.proofs.Common.{◌≡◌, ◌/◌, nat_le, filter, [], ap, arith}
use Rattle.std.specs.List.{sum_by}
use Rattle.lti_machine.specs.declared.entry.Entry.{Entry}
use Rattle.nonce_window.specs.Last.{with_last}
use Rattle.nonce_window.specs.Sizes.{capped, entry_size, used_size}
use Rattle.nonce_window.proofs.SizeLemmas.{last_size}
use Rattle.nonce_window.proofs.window.size_with_last.Goals as goal

pub returns-in-Some : goal.returns-in-Some
returns-in-Some c =
    let e : Entry = c.in-Some.last in
    let one : capped (used_size (record { key = c.get.result.now; stamp = record { timestamp = e.timestamp; nonce = c.get-in-Some.result.now } })) ≡ capped (entry_size e) =
    λ i. capped (used_size (record { key = c.get.ensures i; stamp = record { timestamp = e.timestamp; nonce = c.get-in-Some.ensures i } })) in
    omega (
      arith,
      c.saturating_add.ensures,
      c.nonce_size.ensures e.timestamp,
      one,
      last_size c.args.first e c.if-first-last.true,
      ap (λ o. sum_by entry_size (filter (λ (x : Entry). nat_le c.args.first (x.timestamp / 60)) (with_last [] o))) c.in-Some.is,
    )
