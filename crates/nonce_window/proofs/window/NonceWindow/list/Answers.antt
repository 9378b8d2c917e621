use Rattle.std.proofs.Common.{◌++◌, ◌/◌, ap, ◌∙◌, map, filter, nat_le, [], List}
use Rattle.lti_machine.specs.declared.entry.Entry.{Entry}
use Rattle.lti_machine.specs.Used.{Used, used_of, lives}
use Rattle.nonce_window.specs.Fresh.{is_fresh}
use Rattle.nonce_window.specs.Last.{with_last}
use Rattle.nonce_window.specs.Window.{WindowValue}
use Rattle.nonce_window.proofs.WindowLemmas.{listed, fresh_lives, plain_used, with_last_known}
use Rattle.nonce_window.proofs.window.NonceWindow.list.Goals as goal

pub returns : goal.returns
returns c =
    let nonces = c.self.inside.nonces in
    let last = c.self.inside.last in
    let known = with_last_known nonces last c.self.inside.highest c.self.invariant.known c.self.invariant.next in
    c.in_ok-list_last.ensures
    ∙ ap (λ (l : List Used). l ++ map used_of (filter (λ (e : Entry). nat_le c.first_minute-first.result (e.timestamp / 60)) (with_last [] last))) (plain_used c.in_ok-triples.triples.items ∙ ap (map used_of) c.in_ok-triples.ensures)
    ∙ ap (λ n. map used_of (filter (λ (e : Entry). nat_le n (e.timestamp / 60)) nonces) ++ map used_of (filter (λ (e : Entry). nat_le n (e.timestamp / 60)) (with_last [] last))) c.first_minute-first.ensures
    ∙ listed (is_fresh c.args.n) nonces last
    ∙ ap (map used_of) (fresh_lives (with_last nonces last) c.args.n known.signed)
    ∙ ap (λ (w : WindowValue). map used_of (filter (lives c.args.n) w.known)) c.self.view_is
