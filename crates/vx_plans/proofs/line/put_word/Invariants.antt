use Rattle.std.proofs.Common.{◌≤◌, take}
use Rattle.std.specs.List.{flat_map}
use Rattle.vx_io.specs.Sink.{Gains}
use Rattle.vx_value.specs.Words.{spelled_byte}
use Rattle.vx_plans.proofs.line.put_word.Given as goal

-- the bytes so far are gained, and no count fell
abbrev pub invariant-loop-b : goal.invariant-loop-b
invariant-loop-b g l = let seen = g.E.Sink.seen in record {
  gained : Gains (seen l.fn.sink) (seen l.sink) (flat_map (spelled_byte 33) (take l.b-index l.name));
  faults : (seen l.fn.sink).faults ≤ (seen l.sink).faults;
  shortages : (seen l.fn.sink).shortages ≤ (seen l.sink).shortages;
}
