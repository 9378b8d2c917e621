use Rattle.std.proofs.Common.{◌++◌, ap, sym, ◌∙◌, subst, map, append_assoc}
use Rattle.std.specs.List.{AllByRecursion}
use Rattle.std.proofs.lemmas.List.{map-append}
use Rattle.nonce_window.specs.Minutes.{stamps_at, stamps_of}
use Rattle.nonce_window.specs.Nonces.{plain_in, IsWithin}
use Rattle.nonce_window.specs.Triples.{plain_of}
use Rattle.nonce_window.proofs.TableLemmas.{all_left, all_right}
use Rattle.nonce_window.proofs.minute.list_nonces.Goals as goal

pub list_nonce-requires : goal.list_nonce-requires
list_nonce-requires c =
    all_left (IsWithin c.args.minute) (stamps_at (c.in-Some.nonce.now, c.in-Some.seconds.now)) (stamps_of c.next.new.self)
    (subst (λ l. AllByRecursion (IsWithin c.args.minute) (stamps_of l)) c.in-Some.ensures.steps c.loop-nonce.invariant.within)

pub loop-nonce-preserved : goal.loop-nonce-preserved
loop-nonce-preserved c =
    let f = plain_in c.args.key.now c.args.minute in
    let here = stamps_at (c.in-Some.nonce.now, c.in-Some.seconds.now) in
    let rest = stamps_of c.next.new.self in
    let old = map plain_of c.loop-nonce.triples.items in
    record {
      all =
          ap (λ l. l ++ map f rest) c.in_ok-list_nonce.ensures
          ∙ append_assoc old (map f here) (map f rest)
          ∙ ap (λ l. old ++ l) (sym (map-append f here rest))
          ∙ ap (λ l. old ++ map f (stamps_of l)) (sym c.in-Some.ensures.steps)
          ∙ c.loop-nonce.invariant.all;
      within = all_right (IsWithin c.args.minute) here rest (subst (λ l. AllByRecursion (IsWithin c.args.minute) (stamps_of l)) c.in-Some.ensures.steps c.loop-nonce.invariant.within);
    }
