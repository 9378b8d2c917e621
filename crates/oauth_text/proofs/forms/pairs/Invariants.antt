use Rattle.std.proofs.Common.{◌≡◌, ◌++◌, ◌↔◌, map}
use Rattle.form_urlencoded.specs.Form.{raw_pairs}
use Rattle.form_urlencoded.specs.Parse.{raw_pairs_left}
use Rattle.oauth_text.specs.Form.{decoded, AreTexts}
use Rattle.oauth_text.proofs.forms.pairs.Given as goal

-- the pairs so far, with those that are left, are all; and all are texts where those that are left are
abbrev pub invariant-loop-raw_name : goal.invariant-loop-raw_name
invariant-loop-raw_name l = (l.pairs ++ map decoded (raw_pairs_left l.raw_name-iterator) ≡ map decoded (raw_pairs l.fn.form))
    × (AreTexts (raw_pairs_left l.raw_name-iterator) ↔ AreTexts (raw_pairs l.fn.form))
