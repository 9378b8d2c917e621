use Rattle.std.proofs.Common.{◌≡◌, ◌^◌, ◌%◌, ◌*◌, ℕ, Bool, nat_eq, false, ap, sym, ◌∙◌, bit_or, w64, arith}
use Rattle.std.specs.Int.{bit_at}
use Rattle.std.proofs.lemmas.Nat.Bits.{bit_at_set_same, bit_at_set_other}
use Rattle.std.specs.List.{list_any}
use Rattle.nonce_window.proofs.SecondLemmas.{any_below, added_below}
use Rattle.nonce_window.proofs.seconds.Seconds.add.Goals as goal

pub returns : goal.returns
returns c =
    let bits = c.self.inside.bits in
    let p : ℕ → Bool = λ s. nat_eq (bit_at bits s) 1 in
    let absent : p c.args.second ≡ false = sym (any_below p c.args.second 60 c.requires.within) ∙ ap (list_any (nat_eq c.args.second)) c.self.view_is ∙ c.requires.new in
    rw (sym c.self.view_is) (added_below p (λ s. nat_eq (bit_at (bit_or bits (1 * 2 ^ c.args.second % 2 ^ 64)) s) 1) c.args.second 60 c.requires.within absent
    (ap (λ n. nat_eq n 1) (bit_at_set_same w64 bits c.args.second (omega (arith, c.requires.within))))
    (λ t other. ap (λ n. nat_eq n 1) (bit_at_set_other w64 bits c.args.second (omega (arith, c.requires.within)) t (λ e. other (sym e)))))
