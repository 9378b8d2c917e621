use Rattle.std.proofs.Common.{◌≡◌, [], take}
use Rattle.std.specs.List.{AllByRecursion}
use Rattle.oauth_text.specs.Form.{AreText}
use Rattle.oauth_text.proofs.FormTexts.{written}
use Rattle.oauth_text.proofs.form_texts.form_text.Given as goal

-- the pairs so far are written, and are texts
abbrev pub invariant-loop-pair : goal.invariant-loop-pair
invariant-loop-pair l = (l.form ≡ record { prefix = []; form = written (take l.pair-index l.pair-items) })
    × AllByRecursion AreText (take l.pair-index l.pair-items)
