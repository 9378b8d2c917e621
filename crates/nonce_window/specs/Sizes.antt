-- How many bytes the digest of a list has for nonces (`lti_machine`, Digest): an entry for each, kept with five bytes before it.
use Rattle.std.specs.Prelude.{ℕ, ◌+◌, min, List}
use Rattle.std.specs.List.{sum_by}
use Rattle.lti_machine.specs.declared.entry.Entry.{Entry}
use Rattle.lti_machine.specs.Digest.{used_entry}
use Rattle.lti_machine.specs.EntryBytes.{length_of}
use Rattle.lti_machine.specs.Used.{Used, used_of}

-- the bytes of the entry of a used stamp, and the five before it
abbrev pub used_size : Used → ℕ
used_size used = length_of (used_entry used) + 5

-- the same of the stamp that an entry uses up
abbrev pub entry_size : Entry → ℕ
entry_size entry = used_size (used_of entry)

-- the number, or the greatest number of 64 bits where that is less
abbrev pub capped : ℕ → ℕ
capped n = min n 18446744073709551615

-- the bytes of all
abbrev pub size_of : List Used → ℕ
size_of used = capped (sum_by used_size used)
