use Rattle.std.proofs.Common.{◌≡◌, ◌++◌, take}
use Rattle.std.specs.List.{flat_map}
use Rattle.vx_count.specs.Output.{piece_output}
use Rattle.vx_count.proofs.output.put_output.Given as goal

abbrev pub invariant-loop-piece : goal.invariant-loop-piece
invariant-loop-piece l = l.out.items ≡ l.initial.out.items ++ flat_map (piece_output l.report l.stream l.c) (take l.piece-index l.report.pieces)
