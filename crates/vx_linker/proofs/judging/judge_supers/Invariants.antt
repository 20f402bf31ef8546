use Rattle.std.proofs.Common.{◌≡◌, ◌++◌, drop}
use Rattle.vx_link.specs.Faults.{bad_super}
use Rattle.vx_linker.proofs.judging.judge_supers.Given as goal

abbrev pub invariant-loop-class : goal.invariant-loop-class
invariant-loop-class l =
    bad_super (l.files.classes.items ++ l.files.core.items) l.files.classes.items ≡ bad_super (l.files.classes.items ++ l.files.core.items) (drop l.class-index l.files.classes.items)
