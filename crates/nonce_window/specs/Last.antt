-- Entries and the last one that came.
use Rattle.std.specs.Prelude.{List, [], ◌∷◌, ◌++◌, Option, Some, None}
use Rattle.lti_machine.specs.declared.entry.Entry.{Entry}

-- the entries, with the last one that came
abbrev pub with_last : List Entry → Option Entry → List Entry
with_last entries None = entries
with_last entries (Some last) = entries ++ last ∷ []
