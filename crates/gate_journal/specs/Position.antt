-- Where a journal stands, by the numbers that a caller keeps of it.
use Rattle.gate_journal.specs.Half.{Place}
use Rattle.gate_journal.specs.declared.position.Position.{Position}

abbrev pub place_at : Position → Place
place_at position = record { half = position.half; second = position.second; generation = position.generation; gate = position.gate }
