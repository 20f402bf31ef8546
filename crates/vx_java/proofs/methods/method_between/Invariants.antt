use Rattle.std.proofs.Common.{◌≡◌, ◌+◌, ◌-◌}
use Rattle.std.specs.Prelude.{find}
use Rattle.vx_java.specs.MemberNumbers.{is_method, numbers_between}
use Rattle.vx_java.specs.Specific.{passes}
use Rattle.vx_java.proofs.methods.method_between.Given as goal

abbrev pub invariant-loop-number : goal.invariant-loop-number
invariant-loop-number l =
    find (is_method l.program (passes l.among) l.sought.0 l.sought.1) (numbers_between l.fn.from l.last)
    ≡ find (is_method l.program (passes l.among) l.sought.0 l.sought.1) (numbers_between l.from l.last)

abbrev pub decreases-loop-number : goal.decreases-loop-number
decreases-loop-number l = l.last + 1 - l.from
