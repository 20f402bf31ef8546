use Rattle.std.proofs.Common.{arith}
use Rattle.std.proofs.lemmas.Result.{IfOk-weaker}
use Rattle.vx_group.proofs.GroupLaws.{IsGroup-extends}
use Rattle.vx_heap.proofs.HeapLaws.{IsHeap-extends}
use Rattle.vx_ready.proofs.Running.{needs_inside}
use Rattle.vx_space.proofs.Spaces.{Extends-trans}
use Rattle.vx_objects.proofs.MakingRows.{new-attempts}
use Rattle.vx_objects.proofs.making.new_fitting.Goals as goal

pub where_fitting-requires-clause-group : goal.where_fitting-requires-clause-group
where_fitting-requires-clause-group g c = c.requires.running.is_group

pub where_fitting-requires-clause-few : goal.where_fitting-requires-clause-few
where_fitting-requires-clause-few g c = omega (arith, c.requires.few)

pub make_ready-requires-clause-classes : goal.make_ready-requires-clause-classes
make_ready-requires-clause-classes g c = c.requires.running.classes

pub make_ready-requires-clause-heap : goal.make_ready-requires-clause-heap
make_ready-requires-clause-heap g c = IsHeap-extends c.in_ok-needs.ensures.extends c.args.heap.now c.requires.running.is_heap

pub make_ready-requires-clause-program : goal.make_ready-requires-clause-program
make_ready-requires-clause-program g c = c.requires.running.is_for

pub make_ready-requires-clause-known : goal.make_ready-requires-clause-known
make_ready-requires-clause-known g c = c.in_ok-needs.ensures.set.known

pub make_ready-requires-clause-inside : goal.make_ready-requires-clause-inside
make_ready-requires-clause-inside g c = needs_inside c.args.site.now c.args.heap.now c.args.group c.in_ok-needs.needs _ c.requires.running c.in_ok-needs.ensures.extends c.in_ok-needs.ensures.set

pub made_inside-requires-clause-heap : goal.made_inside-requires-clause-heap
made_inside-requires-clause-heap g c = c.in_ok-readiness.ensures.ok.changed.is_heap

pub made_inside-requires-clause-known : goal.made_inside-requires-clause-known
made_inside-requires-clause-known g c = c.in_ok-readiness.ensures.ok.proceeds.known

pub given_where_ready-requires-clause-classes : goal.given_where_ready-requires-clause-classes
given_where_ready-requires-clause-classes g c = c.requires.running.classes

pub given_where_ready-requires-clause-group : goal.given_where_ready-requires-clause-group
given_where_ready-requires-clause-group g c = IsGroup-extends (Extends-trans c.in_ok-needs.ensures.extends c.in_ok-readiness.ensures.extends) c.args.group c.requires.running.is_group

pub given_where_ready-requires-clause-past : goal.given_where_ready-requires-clause-past
given_where_ready-requires-clause-past g c = c.requires.running.past

pub given_where_ready-requires-clause-few : goal.given_where_ready-requires-clause-few
given_where_ready-requires-clause-few g c = omega (arith, c.requires.few)

pub given_where_ready-requires-clause-needs : goal.given_where_ready-requires-clause-needs
given_where_ready-requires-clause-needs g c = c.in_ok-readiness.ensures.extends.known _ c.in_ok-needs.ensures.set.known

pub given_where_ready-requires-clause-proceeds : goal.given_where_ready-requires-clause-proceeds
given_where_ready-requires-clause-proceeds g c = c.in_ok-readiness.ensures.ok.proceeds.known

pub given_where_ready-requires-clause-fails : goal.given_where_ready-requires-clause-fails
given_where_ready-requires-clause-fails g c = c.in_ok-readiness.ensures.ok.fails.known

pub returns-clause-ok : goal.returns-clause-ok
returns-clause-ok g c =
    IfOk-weaker c.given_where_ready.result _ _ (λ r' h'. new-attempts c.args.site.now (g.S.Space.sets c.args.space.now) (g.S.Space.sets c.where_fitting.new.space) (g.S.Space.sets c.make_ready.new.space) (g.S.Space.sets c.given_where_ready.new.space) c.args.heap.now c.make_ready.new.heap c.made_inside.new.heap c.args.group c.args.class c.in_ok-needs.needs c.in_ok-readiness.readiness c.in_ok-reference.reference r'.items.items c.requires.running c.requires.objects c.in_ok-needs.ensures.extends c.in_ok-needs.ensures.set c.in_ok-readiness.ensures.extends c.in_ok-readiness.ensures.ok c.in_ok-reference.ensures.changed c.in_ok-reference.ensures.number c.given_where_ready.ensures.extends (h' c.made_inside.new.heap c.in_ok-reference.ensures.changed.is_heap c.in_ok-reference.ensures.held))
    c.given_where_ready.ensures.gives

pub returns-clause-extends : goal.returns-clause-extends
returns-clause-extends g c = Extends-trans c.in_ok-needs.ensures.extends (Extends-trans c.in_ok-readiness.ensures.extends c.given_where_ready.ensures.extends)
