use Rattle.std.specs.HashSet.{contains}
use Rattle.std.specs.Prelude.{nat_eq}
use Rattle.vx_group.proofs.SweepLaws.{IsSwept-made}
use Rattle.vx_group.proofs.callers.Callers.sweep.Goals as goal

pub returns-clause-ok : goal.returns-clause-ok
returns-clause-ok g c = rw (← c.self.view_is) (IsSwept-made _ _ c.args.groups.now (contains nat_eq c.in_ok-marks.marks) (rw (← c.self.view_is) at c.in_ok-marks.ensures.closed) c.in_ok-marks.ensures.marked (rw (← c.self.view_is) at c.in_ok-marks.ensures.reached) c.keep_marked.ensures)
