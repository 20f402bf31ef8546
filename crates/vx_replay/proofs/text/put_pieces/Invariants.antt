use Rattle.std.proofs.Common.{◌≡◌, ◌++◌, take}
use Rattle.std.specs.List.{flat_map}
use Rattle.vx_report.specs.Projection.{run_line}
use Rattle.vx_replay.specs.Replays.{runs_in}
use Rattle.vx_replay.proofs.text.put_pieces.Given as goal

abbrev pub invariant-loop-piece : goal.invariant-loop-piece
invariant-loop-piece l = l.out.items ≡ l.initial.out.items ++ flat_map run_line (runs_in (take l.piece-index l.pieces))
