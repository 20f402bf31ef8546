use Rattle.std.proofs.lemmas.Result.{IfOk-weaker}
use Rattle.vx_space.proofs.Spaces.{Extends-trans}
use Rattle.vx_throw.proofs.PassLaws.{IsPassed-left, left_stands}
use Rattle.vx_throw.proofs.throwing.passed.Goals as goal

pub leave-requires : goal.leave-requires
leave-requires g c = (c.args.callers.now, c.requires.flight)

pub thrown_below-requires-clause-group : goal.thrown_below-requires-clause-group
thrown_below-requires-clause-group g c = (left_stands c.args.program.now c.in_ok-left.ensures.extends c.args.heap.now c.leave.new.heap c.args.callers.now c.args.flight c.in_ok-left.left c.requires.flight c.in_ok-left.ensures.left).is_group

pub thrown_below-requires-clause-called : goal.thrown_below-requires-clause-called
thrown_below-requires-clause-called g c = rw c.in_ok-left.ensures.left.group c.requires.called

pub returns-clause-extends : goal.returns-clause-extends
returns-clause-extends g c = Extends-trans c.in_ok-left.ensures.extends c.thrown_below.ensures.extends

pub returns-clause-passed : goal.returns-clause-passed
returns-clause-passed g c = IfOk-weaker c.thrown_below.result _ _ (λ r h. IsPassed-left c.args.program.now c.in_ok-left.ensures.extends c.args.heap.now c.leave.new.heap c.args.callers.now c.args.flight c.in_ok-left.left c.requires.flight c.in_ok-left.ensures.left c.thrown_below.ensures.extends r (rw c.thrown_below.ensures.callers at h.1) h.0) c.thrown_below.ensures.below
