use Rattle.std.proofs.Common.{◌≡◌, ◌++◌, drop, None}
use Rattle.vx_report.proofs.Output.{still, shown_bytes}
use Rattle.vx_report.proofs.projection.put_output.Given as goal

-- what is written and what is still to be written
abbrev pub invariant-loop-piece : goal.invariant-loop-piece
invariant-loop-piece l = l.out.items ++ still l.now (shown_bytes l.nodes l.c (drop l.piece-index l.piece-items)) ≡ l.initial.out.items ++ still None (shown_bytes l.nodes l.c l.piece-items)
