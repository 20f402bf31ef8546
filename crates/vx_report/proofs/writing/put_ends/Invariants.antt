use Rattle.std.proofs.Common.{◌≡◌, ◌++◌, map, take}
use Rattle.std.specs.List.{flat_map}
use Rattle.vx_report.specs.declared.line.Line.TheVariants.{Ended}
use Rattle.vx_report.specs.Lines.{whole_line}
use Rattle.vx_report.proofs.writing.put_ends.Given as goal

abbrev pub invariant-loop-line : goal.invariant-loop-line
invariant-loop-line l = l.out.items ≡ l.initial.out.items ++ flat_map whole_line (map Ended (take l.line-index l.ends))
