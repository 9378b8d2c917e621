use Rattle.std.proofs.Common.{◌≡◌, ◌++◌, map, drop}
use Rattle.std.specs.Option.{option_map}
use Rattle.serde_json.specs.View.{view}
use Rattle.lti_settings.proofs.SettingsLemmas.{pairs_of}
use Rattle.lti_settings.proofs.settings.pairs_of.Given as goal

-- the pairs so far stand before those of the values that are left
abbrev pub invariant-loop-value : goal.invariant-loop-value
invariant-loop-value l = pairs_of (map view l.values) ≡ option_map (λ ps. l.pairs ++ ps) (pairs_of (map view (drop l.value-index l.values)))
