use Rattle.std.proofs.Common.{◌≡◌, ◌++◌, drop, map}
use Rattle.vx_linker.specs.Cells.{is_run, runs}
use Rattle.vx_linker.proofs.counting.runs.Given as goal

abbrev pub invariant-loop-class : goal.invariant-loop-class
invariant-loop-class l = l.flags.items ++ map (λ c. is_run c.fields) (drop l.class-index l.program.classes) ≡ runs l.program
