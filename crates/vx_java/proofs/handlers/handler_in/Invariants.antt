use Rattle.std.proofs.Common.{◌≡◌, drop}
use Rattle.vx_java.specs.Selection.{handler_in}
use Rattle.vx_link.specs.Parts.{class_at}
use Rattle.vx_java.proofs.handlers.handler_in.Given as goal

abbrev pub invariant-loop-row : goal.invariant-loop-row
invariant-loop-row l =
    handler_in l.program (class_at l.program l.class.0).pool l.rows l.position l.thrown.0 ≡ handler_in l.program (class_at l.program l.class.0).pool (drop l.row-index l.rows) l.position l.thrown.0
