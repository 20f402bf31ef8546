use Rattle.std.proofs.lemmas.Result.{IfOk-weaker}
use Rattle.vx_group.proofs.GroupLaws.{IsGroupIn-group}
use Rattle.vx_space.proofs.Spaces.{Extends-trans}
use Rattle.vx_throw.proofs.FailLaws.{path_known}
use Rattle.vx_throw.proofs.PassLaws.{ended-left, ended-none, left_stands, no_frame}
use Rattle.vx_throw.proofs.throwing.ended.Goals as goal

pub is_never-requires : goal.is_never-requires
is_never-requires g c = rw c.path.ensures (path_known c.args.program.now _ c.args.heap.now c.requires.0 c.args.flight c.requires.1)

pub returns-then-is_never-clause-ended : goal.returns-then-is_never-clause-ended
returns-then-is_never-clause-ended g c = λ tree f none last. ended-none c.args.program.now (g.met.S.Space.lawful c.args.space.now) c.args.heap.now tree c.args.flight c.path.result _ c.path.ensures (c.is_never.ensures.0 c.if-is_never.true) c.new.ensures f

pub leave-requires : goal.leave-requires
leave-requires g c = c.requires

pub end_all-requires-clause-heap : goal.end_all-requires-clause-heap
end_all-requires-clause-heap g c = c.in_ok-left.ensures.left.changed.is_heap

pub end_all-requires-clause-group : goal.end_all-requires-clause-group
end_all-requires-clause-group g c = IsGroupIn-group _ c.requires.0 c.in_ok-left.left.group (left_stands c.args.program.now c.in_ok-left.ensures.extends c.args.heap.now c.leave.new.heap c.requires.0 c.args.flight c.in_ok-left.left c.requires.1 c.in_ok-left.ensures.left).is_group

pub end_all-requires-clause-thrown : goal.end_all-requires-clause-thrown
end_all-requires-clause-thrown g c = c.in_ok-left.ensures.left.thrown

pub returns-clause-extends : goal.returns-clause-extends
returns-clause-extends g c = Extends-trans c.in_ok-left.ensures.extends c.end_all.ensures.extends

pub returns-clause-ended : goal.returns-clause-ended
returns-clause-ended g c = IfOk-weaker c.end_all.result _ _ (λ r h tree f none last. ended-left c.args.program.now c.in_ok-left.ensures.extends c.args.heap.now c.leave.new.heap tree c.args.flight c.in_ok-left.left f c.in_ok-left.ensures.left r.items.items c.end_all.ensures.extends (no_frame c.args.flight.group.below last) none h) c.end_all.ensures.gives
