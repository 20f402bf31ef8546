-- What a steady sink shows.
use Rattle.std.specs.Prelude.{ℕ, List, Some}
use Rattle.vx_io.specs.Sink.{SinkState}
use Rattle.vx_io.specs.declared.steady_sink.SteadySink.{SteadySink}

-- what was written
abbrev pub written_of : SteadySink → List ℕ
written_of sink = sink.written.items

-- what contracts see of it as of any sink: no write fails
abbrev pub seen_of : SteadySink → SinkState
seen_of sink = record { written = Some (written_of sink); faults = 0; shortages = sink.shortages }
