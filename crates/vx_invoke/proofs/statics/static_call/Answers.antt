use Rattle.std.proofs.Common.{◌<◌, ◌≤◌, arith, length}
use Rattle.std.proofs.lemmas.Result.{IfOk-weaker}
use Rattle.vx_group.proofs.CallerLaws.{Keeps-refl}
use Rattle.vx_group.proofs.GroupLaws.{IsGroupIn-group, IsGroupIn-later}
use Rattle.vx_heap.proofs.HeapLaws.{IsHeap-extends}
use Rattle.vx_space.proofs.Spaces.{Extends-trans}
use Rattle.vx_invoke.proofs.StaticCalls.{few-attempts, needs_run, static-attempts, static_enter}
use Rattle.vx_invoke.proofs.statics.static_call.Goals as goal

pub returns-then-len-count-clause-ok : goal.returns-then-len-count-clause-ok
returns-then-len-count-clause-ok g c =
    IfOk-weaker c.illegal.result _ _ (λ r' h'.
    λ m d.
    let few : length c.args.group.top.stack.conds < length c.args.types.now = rw (← c.top_frame.ensures, ← c.len.ensures) (omega arith) in
    few-attempts c.args.site.now c.args.heap.now c.args.callers.now c.args.group c.args.method c.args.types.now c.requires m d few _ (h' _))
    c.illegal.ensures

pub where_matching-requires-clause-group : goal.where_matching-requires-clause-group
where_matching-requires-clause-group g c = IsGroupIn-group _ c.args.callers.now c.args.group c.requires.stands.is_group

pub where_matching-requires-clause-enough : goal.where_matching-requires-clause-enough
where_matching-requires-clause-enough g c = rw (← c.top_frame.ensures, ← c.len.ensures) (omega arith)

pub make_ready-requires-clause-classes : goal.make_ready-requires-clause-classes
make_ready-requires-clause-classes g c = c.requires.bounded.classes

pub make_ready-requires-clause-heap : goal.make_ready-requires-clause-heap
make_ready-requires-clause-heap g c = IsHeap-extends c.in_ok-needs.ensures.extends c.args.heap.now c.requires.is_heap

pub make_ready-requires-clause-program : goal.make_ready-requires-clause-program
make_ready-requires-clause-program g c = c.requires.is_for

pub make_ready-requires-clause-known : goal.make_ready-requires-clause-known
make_ready-requires-clause-known g c = c.in_ok-needs.ensures.set.known

pub make_ready-requires-clause-inside : goal.make_ready-requires-clause-inside
make_ready-requires-clause-inside g c = needs_run c.args.site.now c.args.heap.now c.args.callers.now c.args.group c.args.method c.args.types.now c.requires c.in_ok-needs.needs c.in_ok-needs.ensures.extends c.in_ok-needs.ensures.set

pub call_ready-requires-clause-classes : goal.call_ready-requires-clause-classes
call_ready-requires-clause-classes g c = c.requires.bounded.classes

pub call_ready-requires-clause-group : goal.call_ready-requires-clause-group
call_ready-requires-clause-group g c = IsGroupIn-later (Extends-trans c.in_ok-needs.ensures.extends c.in_ok-readiness.ensures.extends) (Keeps-refl c.args.callers.now) c.args.group c.requires.stands.is_group

pub call_ready-requires-clause-enough : goal.call_ready-requires-clause-enough
call_ready-requires-clause-enough g c = rw (← c.top_frame.ensures, ← c.len.ensures) (omega arith)

pub call_ready-requires-clause-needs : goal.call_ready-requires-clause-needs
call_ready-requires-clause-needs g c = c.in_ok-readiness.ensures.extends.known _ c.in_ok-needs.ensures.set.known

pub call_ready-requires-clause-proceeds : goal.call_ready-requires-clause-proceeds
call_ready-requires-clause-proceeds g c = c.in_ok-readiness.ensures.ok.proceeds.known

pub call_ready-requires-clause-fails : goal.call_ready-requires-clause-fails
call_ready-requires-clause-fails g c = c.in_ok-readiness.ensures.ok.fails.known

pub call_ready-requires-clause-enter : goal.call_ready-requires-clause-enter
call_ready-requires-clause-enter g c =
    let enough : length c.args.types.now ≤ length c.args.group.top.stack.conds = rw (← c.top_frame.ensures, ← c.len.ensures) (omega arith) in
    static_enter c.args.site.now c.args.heap.now c.args.callers.now c.args.group c.args.method c.args.types.now c.requires c.make_ready.new.heap c.class_of_method-class.result c.in_ok-needs.needs c.in_ok-readiness.readiness c.class_of_method-class.ensures enough c.in_ok-needs.ensures.extends c.in_ok-needs.ensures.set c.in_ok-readiness.ensures.extends c.in_ok-readiness.ensures.ok

pub returns-clause-extends : goal.returns-clause-extends
returns-clause-extends g c = Extends-trans c.in_ok-needs.ensures.extends (Extends-trans c.in_ok-readiness.ensures.extends c.call_ready.ensures.extends)

pub returns-clause-ok : goal.returns-clause-ok
returns-clause-ok g c =
    let enough : length c.args.types.now ≤ length c.args.group.top.stack.conds = rw (← c.top_frame.ensures, ← c.len.ensures) (omega arith) in
    IfOk-weaker c.call_ready.result _ _ (λ r gives m d. static-attempts c.args.site.now c.args.heap.now c.args.callers.now c.args.group c.args.method c.args.types.now c.requires c.make_ready.new.heap c.class_of_method-class.result c.in_ok-needs.needs c.in_ok-readiness.readiness c.class_of_method-class.ensures enough c.in_ok-needs.ensures.extends c.in_ok-needs.ensures.set c.in_ok-readiness.ensures.extends c.in_ok-readiness.ensures.ok _ c.call_ready.new.callers m d r.items.items c.call_ready.ensures.extends c.call_ready.ensures.keeps (gives c.make_ready.new.heap)) c.call_ready.ensures.gives
