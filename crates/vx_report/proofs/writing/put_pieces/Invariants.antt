use Rattle.std.proofs.Common.{◌≡◌, ◌++◌, map, take}
use Rattle.std.specs.List.{flat_map}
use Rattle.vx_report.specs.declared.line.Line.TheVariants.{Printed}
use Rattle.vx_report.specs.Lines.{whole_line}
use Rattle.vx_report.proofs.writing.put_pieces.Given as goal

abbrev pub invariant-loop-piece : goal.invariant-loop-piece
invariant-loop-piece l = l.out.items ≡ l.initial.out.items ++ flat_map whole_line (map Printed (take l.piece-index l.pieces))
