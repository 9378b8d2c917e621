use Rattle.std.proofs.Common.{◌≤◌, ◌/◌, ◌&&◌, ◌∙◌, ℕ, sym, ap, arith, cond, length, nat_le, count_by}
use Rattle.lti_machine.specs.Nonces.{is_of_key, is_live, live}
use Rattle.nonce_window.specs.Window.{WindowValue}
use Rattle.nonce_window.specs.Last.{with_last}
use Rattle.nonce_window.proofs.KeyedLemmas.{found_or}
use Rattle.nonce_window.proofs.WindowLemmas.{with_last_known, live_fits, count_last}
use Rattle.nonce_window.proofs.window.NonceWindow.live_count.Goals as goal

pub overflow_add-result : goal.overflow_add-result
overflow_add-result c =
    let later : c.self.inside.highest ≤ c.args.now = rw (ap (λ (w : WindowValue). w.high) c.self.view_is) c.requires in
    let nonces = c.self.inside.nonces in
    let all = count_last nonces c.self.inside.last c.self.inside.highest c.args.now c.args.key.now c.self.invariant.known c.self.invariant.next later in
    let fits = live_fits (with_last nonces c.self.inside.last) c.self.inside.highest c.args.now c.args.key.now (with_last_known nonces c.self.inside.last c.self.inside.highest c.self.invariant.known c.self.invariant.next) later in
    let count = c.count-count.ensures ∙ ap (λ n. count_by (λ e. is_of_key c.args.key.now e && nat_le n (e.timestamp / 60)) nonces) c.first_minute.ensures in
    let one = ap (found_or 0 (λ e. cond {A = ℕ} (is_live c.args.key.now c.args.now e) 1 0)) c.in-Some.is ∙ ap (λ b. cond {A = ℕ} b 1 0) (sym c.if-is_live.ensures) in
    omega (arith, all, fits, count, one)

pub returns-in-Some : goal.returns-in-Some
returns-in-Some c =
    let later : c.self.inside.highest ≤ c.args.now = rw (ap (λ (w : WindowValue). w.high) c.self.view_is) c.requires in
    let nonces = c.self.inside.nonces in
    let all = count_last nonces c.self.inside.last c.self.inside.highest c.args.now c.args.key.now c.self.invariant.known c.self.invariant.next later in
    let count = c.count-count.ensures ∙ ap (λ n. count_by (λ e. is_of_key c.args.key.now e && nat_le n (e.timestamp / 60)) nonces) c.first_minute.ensures in
    let one = ap (found_or 0 (λ e. cond {A = ℕ} (is_live c.args.key.now c.args.now e) 1 0)) c.in-Some.is ∙ ap (λ b. cond {A = ℕ} b 1 0) (sym c.if-is_live.ensures) in
    let known = ap (λ (w : WindowValue). length (live w.known c.args.key.now c.args.now)) c.self.view_is in
    omega (arith, all, count, one, known)

pub returns-in_default : goal.returns-in_default
returns-in_default c =
    let later : c.self.inside.highest ≤ c.args.now = rw (ap (λ (w : WindowValue). w.high) c.self.view_is) c.requires in
    let nonces = c.self.inside.nonces in
    let all = count_last nonces c.self.inside.last c.self.inside.highest c.args.now c.args.key.now c.self.invariant.known c.self.invariant.next later in
    let count = c.count-count.ensures ∙ ap (λ n. count_by (λ e. is_of_key c.args.key.now e && nat_le n (e.timestamp / 60)) nonces) c.first_minute.ensures in
    let one = ap (found_or 0 (λ e. cond {A = ℕ} (is_live c.args.key.now c.args.now e) 1 0)) c.in-Some.is ∙ ap (λ b. cond {A = ℕ} b 1 0) (sym c.if-is_live.ensures) in
    let known = ap (λ (w : WindowValue). length (live w.known c.args.key.now c.args.now)) c.self.view_is in
    omega (arith, all, count, one, known)
