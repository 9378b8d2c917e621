use Rattle.std.proofs.Common.{◌≡◌, ◌-◌, ◌++◌, List, length, drop}
use Rattle.oauth_header.specs.Items.{Placed, items_from}
use Rattle.oauth_header.specs.Header.{AreItems, pairs_in, items_of}
use Rattle.oauth_header.proofs.reading.read.Given as goal

-- the items before the place have readings, and their pairs are read
abbrev pub invariant-loop-at : goal.invariant-loop-at
invariant-loop-at l =
    (front : List Placed) × (items_of l.value ≡ front ++ items_from l.at (drop l.at l.value)) × AreItems front × (l.pairs ≡ pairs_in front)

abbrev pub decreases-loop-at : goal.decreases-loop-at
decreases-loop-at l = length l.value - l.at
