use Rattle.std.proofs.Common.{◌≡◌, ◌∙◌, sym, ap, false, [], ◌∷◌, ◌++◌, map, bytes_eq}
use Rattle.std.specs.List.{list_any}
use Rattle.std.specs.String.{string_bytes, string_eq}
use Rattle.std.proofs.lemmas.Bool.{cond-false}
use Rattle.std.proofs.lemmas.List.{map-append}
use Rattle.nonce_window.proofs.KeyLemmas.{missing, any_map}
use Rattle.nonce_window.proofs.keys.Keys.add.Goals as goal

pub returns-clause-added : goal.returns-clause-added
returns-clause-added c =
    let keys = c.self.inside.keys.keys in
    let text = c.in_ok-key.ensures.ok in
    let none : list_any (string_eq c.in_ok-key.key) keys ≡ false =
    sym (any_map (bytes_eq (string_bytes c.in_ok-key.key)) string_bytes keys) ∙ (λ i. list_any (bytes_eq (text i)) (c.self.view_is i)) ∙ missing c.args.self.now c.args.key.now c.requires in
    ap (map string_bytes) (c.in_ok-insert.ensures.keys ∙ cond-false (list_any (string_eq c.in_ok-key.key) keys) keys (keys ++ c.in_ok-key.key ∷ []) none)
    ∙ map-append string_bytes keys (c.in_ok-key.key ∷ [])
    ∙ (λ i. c.self.view_is i ++ text i ∷ [])
