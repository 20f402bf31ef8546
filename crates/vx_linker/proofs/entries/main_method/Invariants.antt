use Rattle.std.proofs.Common.{drop}
use Rattle.vx_linker.proofs.Found.{FindsOn}
use Rattle.vx_linker.proofs.entries.main_method.Given as goal

abbrev pub invariant-loop-class : goal.invariant-loop-class
invariant-loop-class l = FindsOn l.methods l.main l.classes (drop l.class-index l.classes)
