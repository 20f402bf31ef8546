use Rattle.std.proofs.lemmas.Result.{IfOk-weaker}
use Rattle.vx_group.proofs.GroupLaws.{IsGroup-extends}
use Rattle.vx_heap.proofs.HeapLaws.{IsHeap-extends}
use Rattle.vx_space.proofs.Spaces.{Extends-trans}
use Rattle.vx_fields.proofs.Puts.{put-attempts}
use Rattle.vx_fields.proofs.Storing.{field_there}
use Rattle.vx_ready.proofs.Running.{needs_inside, proceeds_there, running_held, running_runs}
use Rattle.vx_fields.proofs.statics.put_found.Goals as goal

pub where_fitting-requires-clause-group : goal.where_fitting-requires-clause-group
where_fitting-requires-clause-group g c = c.requires.running.is_group

pub make_ready-requires-clause-classes : goal.make_ready-requires-clause-classes
make_ready-requires-clause-classes g c = c.requires.running.classes

pub make_ready-requires-clause-heap : goal.make_ready-requires-clause-heap
make_ready-requires-clause-heap g c = IsHeap-extends c.in_ok-needs.ensures.extends c.args.heap.now c.requires.running.is_heap

pub make_ready-requires-clause-program : goal.make_ready-requires-clause-program
make_ready-requires-clause-program g c = c.requires.running.is_for

pub make_ready-requires-clause-known : goal.make_ready-requires-clause-known
make_ready-requires-clause-known g c = c.in_ok-needs.ensures.set.known

pub make_ready-requires-clause-inside : goal.make_ready-requires-clause-inside
make_ready-requires-clause-inside g c = needs_inside c.args.site.now c.args.heap.now c.args.group c.in_ok-needs.needs _ c.requires.running c.in_ok-needs.ensures.extends c.in_ok-needs.ensures.set

pub store-requires-clause-heap : goal.store-requires-clause-heap
store-requires-clause-heap g c = c.in_ok-readiness.ensures.ok.changed.is_heap

pub store-requires-clause-group : goal.store-requires-clause-group
store-requires-clause-group g c = IsGroup-extends (Extends-trans c.in_ok-needs.ensures.extends c.in_ok-readiness.ensures.extends) c.args.group c.requires.running.is_group

pub store-requires-clause-field : goal.store-requires-clause-field
store-requires-clause-field g c = field_there c.args.site.now _ _ _ c.args.heap.now c.make_ready.new.heap _ c.args.group c.args.field.0 c.requires.running c.in_ok-readiness.ensures.ok.changed c.requires.field

pub store-requires-clause-known : goal.store-requires-clause-known
store-requires-clause-known g c = c.in_ok-readiness.ensures.ok.proceeds.known

pub store-requires-clause-inside : goal.store-requires-clause-inside
store-requires-clause-inside g c = proceeds_there c.args.site.now c.args.heap.now c.make_ready.new.heap c.args.group c.class_of_field-class.result.0 c.in_ok-needs.needs c.in_ok-readiness.readiness _ c.requires.running c.in_ok-needs.ensures.extends c.in_ok-readiness.ensures.extends c.in_ok-needs.ensures.set c.in_ok-readiness.ensures.ok

pub store-requires-clause-runs : goal.store-requires-clause-runs
store-requires-clause-runs g c = running_runs c.args.site.now c.args.heap.now c.make_ready.new.heap _ c.args.group c.requires.running (Extends-trans c.in_ok-needs.ensures.extends c.in_ok-readiness.ensures.extends) c.in_ok-readiness.ensures.ok.changed

pub store-requires-clause-held : goal.store-requires-clause-held
store-requires-clause-held g c = running_held c.args.site.now c.args.heap.now c.make_ready.new.heap _ c.args.group c.requires.running (Extends-trans c.in_ok-needs.ensures.extends c.in_ok-readiness.ensures.extends) c.in_ok-readiness.ensures.ok.changed

pub put_going-requires-clause-classes : goal.put_going-requires-clause-classes
put_going-requires-clause-classes g c = c.requires.running.classes

pub put_going-requires-clause-group : goal.put_going-requires-clause-group
put_going-requires-clause-group g c = IsGroup-extends (Extends-trans c.in_ok-needs.ensures.extends (Extends-trans c.in_ok-readiness.ensures.extends c.in_ok-store.ensures.extends)) c.args.group c.requires.running.is_group

pub put_going-requires-clause-needs : goal.put_going-requires-clause-needs
put_going-requires-clause-needs g c = (Extends-trans c.in_ok-readiness.ensures.extends c.in_ok-store.ensures.extends).known _ c.in_ok-needs.ensures.set.known

pub put_going-requires-clause-proceeds : goal.put_going-requires-clause-proceeds
put_going-requires-clause-proceeds g c = c.in_ok-store.ensures.extends.known _ c.in_ok-readiness.ensures.ok.proceeds.known

pub put_going-requires-clause-past : goal.put_going-requires-clause-past
put_going-requires-clause-past g c = c.requires.running.past

pub put_going-requires-clause-fails : goal.put_going-requires-clause-fails
put_going-requires-clause-fails g c = c.in_ok-store.ensures.extends.known _ c.in_ok-readiness.ensures.ok.fails.known

pub returns-in_err-store-clause-extends : goal.returns-in_err-store-clause-extends
returns-in_err-store-clause-extends g c = Extends-trans c.in_ok-needs.ensures.extends (Extends-trans c.in_ok-readiness.ensures.extends c.store.ensures.extends)

pub returns-clause-extends : goal.returns-clause-extends
returns-clause-extends g c = Extends-trans c.in_ok-needs.ensures.extends (Extends-trans c.in_ok-readiness.ensures.extends (Extends-trans c.in_ok-store.ensures.extends c.put_going.ensures.extends))

pub returns-clause-ok : goal.returns-clause-ok
returns-clause-ok g c = IfOk-weaker c.put_going.result _ _ (λ made gone named. put-attempts c.args.site.now (g.S.Space.sets c.args.space.now) (g.S.Space.sets c.where_fitting.new.space) (g.S.Space.sets c.make_ready.new.space) (g.S.Space.sets c.store.new.space) (g.S.Space.sets c.put_going.new.space) c.args.heap.now c.make_ready.new.heap c.store.new.heap c.args.group c.args.field.0 c.args.field_type c.class_of_field-class.result c.in_ok-needs.needs c.in_ok-readiness.readiness made.items.items c.requires.running c.class_of_field-class.ensures c.in_ok-needs.ensures.extends c.in_ok-needs.ensures.set c.in_ok-readiness.ensures.extends c.in_ok-readiness.ensures.ok c.in_ok-store.ensures.extends c.in_ok-store.ensures.ok c.put_going.ensures.extends (gone c.store.new.heap) named) c.put_going.ensures.gives
