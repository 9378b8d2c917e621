-- How the grade of an id stands, by all that was accepted. LTI 1.1.1 section 6: a tool sets, reads and deletes the
-- grade of a sourcedId. That the id must have been issued before is this project's own rule.
use Rattle.std.specs.Prelude.{ℕ, List, bytes_eq, if◌then◌else◌}
use Rattle.std.specs.List.{fold}
use Rattle.lti_machine.specs.declared.entry.Entry.{Entry}
use Rattle.lti_machine.specs.declared.entry.Effect.{Effect}
use Rattle.lti_machine.specs.declared.entry.Effect.TheVariants as effect
use Rattle.lti_machine.specs.declared.standing.Standing.{Standing}
use Rattle.lti_machine.specs.declared.standing.Standing.TheVariants.{Unknown, Empty, Scored}

-- an id that is issued has no grade; issued again, it keeps its grade
abbrev pub when_issued : Standing → Standing
when_issued Unknown = Empty
when_issued standing = standing

-- only the grade of an issued id changes
abbrev pub when_set : Standing → Standing → Standing
when_set Unknown wanted = Unknown
when_set standing wanted = wanted

-- how the id stands after an effect under its key
abbrev pub after_effect : List ℕ → Standing → Effect → Standing
after_effect id before (effect.Issued other) = if bytes_eq other id then when_issued before else before
after_effect id before (effect.Grade other score) = if bytes_eq other id then when_set before (Scored score) else before
after_effect id before (effect.Cleared other) = if bytes_eq other id then when_set before Empty else before
after_effect id before effect.Nothing = before
after_effect id before (effect.Launch link user sourced_id service) = before

-- how the id of this key stands after one more entry; entries of other keys say nothing of it
abbrev pub after_entry : List ℕ → List ℕ → Standing → Entry → Standing
after_entry key id before entry = if bytes_eq entry.key key then after_effect id before entry.effect else before

-- how the id of this key stands after all entries, in order
abbrev pub standing : List Entry → List ℕ → List ℕ → Standing
standing entries key id = fold (after_entry key id) Unknown entries
