use Rattle.std.proofs.Common.{◌≡◌, take}
use denote.Text.{Utf8}
use denote.Shadow.{shadow}
use Rattle.std.specs.List.{AllByRecursion}
use Rattle.std.specs.String.{string_bytes}
use Rattle.oauth_text.specs.Form.{AreText}
use Rattle.oauth_header.specs.Written.{header_text}
use Rattle.oauth_header.proofs.WrittenLemmas.{separator}
use Rattle.oauth_header.proofs.writing.write.Given as goal

-- the pairs so far are written, and are texts
abbrev pub invariant-loop-pair : goal.invariant-loop-pair
invariant-loop-pair l =
    shadow (Utf8 l.separator)
    × (string_bytes l.text ≡ header_text (take l.pair-index l.pair-items))
    × (l.separator ≡ separator (take l.pair-index l.pair-items))
    × AllByRecursion AreText (take l.pair-index l.pair-items)
