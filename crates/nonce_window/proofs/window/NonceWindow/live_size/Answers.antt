use Rattle.std.proofs.Common.{◌≤◌, ◌+◌, ◌/◌, ◌∙◌, ap, arith, filter, nat_le, []}
use Rattle.std.specs.List.{sum_by}
use Rattle.lti_machine.specs.declared.entry.Entry.{Entry}
use Rattle.lti_machine.specs.Used.{used}
use Rattle.nonce_window.specs.Last.{with_last}
use Rattle.nonce_window.specs.Sizes.{capped, entry_size, used_size}
use Rattle.nonce_window.specs.Window.{WindowValue}
use Rattle.nonce_window.proofs.SizeLemmas.{known_size}
use Rattle.nonce_window.proofs.window.NonceWindow.live_size.Goals as goal

pub returns : goal.returns
returns c =
    let later : c.self.inside.highest ≤ c.args.n = rw (ap (λ (w : WindowValue). w.high) c.self.view_is) c.requires in
    let nonces = c.self.inside.nonces in
    let last = c.self.inside.last in
    let sum = known_size nonces last c.self.inside.highest c.args.n c.self.invariant.known c.self.invariant.next later in
    let tables = c.size.ensures ∙ ap (λ n. capped (sum_by entry_size (filter (λ (e : Entry). nat_le n (e.timestamp / 60)) nonces))) c.first_minute-first.ensures in
    let one = c.size_with_last.ensures ∙ ap (λ n. capped (c.size.result + sum_by entry_size (filter (λ (e : Entry). nat_le n (e.timestamp / 60)) (with_last [] last)))) c.first_minute-first.ensures in
    let known = ap (λ (w : WindowValue). sum_by used_size (used w.known c.args.n)) c.self.view_is in
    omega (arith, sum, tables, one, known)
