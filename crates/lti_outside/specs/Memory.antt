-- What the ends in memory tell.
use Rattle.std.specs.Prelude.{[], Some}
use Rattle.lti_outside.specs.Traffic.{Told, Traffic}
use Rattle.lti_outside.specs.Pieces.{lists, before, from}
use Rattle.lti_outside.specs.declared.memory_source.MemorySource.{MemorySource}
use Rattle.lti_outside.specs.declared.memory_sink.MemorySink.{MemorySink}
use Rattle.lti_outside.specs.declared.memory_link.MemoryLink.{MemoryLink}

abbrev pub source_told : MemorySource → Told
source_told s = record {
  taken = before (lists s.pieces.items) s.place s.at;
  left = from (lists s.pieces.items) s.place s.at;
  given = [];
}

abbrev pub source_traffic : MemorySource → Traffic
source_traffic s = record { told = Some (source_told s); read_faults = s.faults; write_faults = 0 }

abbrev pub sink_told : MemorySink → Told
sink_told s = record { taken = []; left = []; given = s.bytes.items }

abbrev pub sink_traffic : MemorySink → Traffic
sink_traffic s = record { told = Some (sink_told s); read_faults = 0; write_faults = s.faults }

-- the bytes taken and left of the source, and the bytes given to the sink
abbrev pub link_told : MemoryLink → Told
link_told l = record (source_told l.source) { given = (sink_told l.sink).given }

abbrev pub link_traffic : MemoryLink → Traffic
link_traffic l = record { told = Some (link_told l); read_faults = l.source.faults; write_faults = l.sink.faults }
