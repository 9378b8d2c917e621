-- What an answer with borrowed texts says.
use Rattle.lti_machine.specs.Rows.{RowValue}
use Rattle.lti_machine.specs.Placements.{PlacementValue}
use Rattle.gradebook.specs.declared.row.Row.{Row}
use Rattle.gradebook.specs.declared.placement.Placement.{Placement}

abbrev pub row_told : Row → RowValue
row_told row = record { key = row.key.now; id = row.id.now; standing = row.standing }

abbrev pub placement_told : Placement → PlacementValue
placement_told placement = record { sourced_id = placement.sourced_id.now; service = placement.service.now }
