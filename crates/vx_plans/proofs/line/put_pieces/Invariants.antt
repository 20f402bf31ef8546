use Rattle.std.proofs.Common.{◌≤◌, take}
use Rattle.std.specs.List.{flat_map}
use Rattle.vx_io.specs.Sink.{Gains}
use Rattle.vx_plans.specs.Line.{piece_bytes}
use Rattle.vx_plans.proofs.line.put_pieces.Given as goal

-- the bytes of the pieces so far are gained, and no count fell
abbrev pub invariant-loop-piece : goal.invariant-loop-piece
invariant-loop-piece g l = let seen = g.E.Sink.seen in record {
  gained : Gains (seen l.fn.sink) (seen l.sink) (flat_map piece_bytes (take l.piece-index l.pieces));
  faults : (seen l.fn.sink).faults ≤ (seen l.sink).faults;
  shortages : (seen l.fn.sink).shortages ≤ (seen l.sink).shortages;
}
