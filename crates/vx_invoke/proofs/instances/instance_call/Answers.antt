use Rattle.std.proofs.Common.{◌+◌, ◌<◌, ◌≤◌, arith, length, suc}
use Rattle.std.proofs.lemmas.Result.{IfOk-weaker}
use Rattle.vx_group.proofs.CallerLaws.{Keeps-refl}
use Rattle.vx_group.proofs.GroupLaws.{IsGroup-extends, IsGroupIn-group, IsGroupIn-later}
use Rattle.vx_space.proofs.Spaces.{Extends-trans}
use Rattle.vx_invoke.proofs.ObjectCalls.{few-gives, matching_inside, object-gives, object_enter}
use Rattle.vx_invoke.proofs.instances.instance_call.Goals as goal

pub returns-then-len-count-clause-gives : goal.returns-then-len-count-clause-gives
returns-then-len-count-clause-gives g c =
    IfOk-weaker c.illegal.result _ _ (λ r' h'.
    λ m member.
    let few : length c.args.group.top.stack.conds < suc (length c.args.types.now) = rw (← c.top_frame.ensures, ← c.len.ensures) (omega arith) in
    few-gives c.args.site.now c.args.heap.now c.args.callers.now c.args.group c.args.target.now c.args.types.now c.requires m member few _ (h' _))
    c.illegal.ensures

pub where_matching-requires-clause-group : goal.where_matching-requires-clause-group
where_matching-requires-clause-group g c = IsGroupIn-group _ c.args.callers.now c.args.group c.requires.callable.stands.is_group

pub where_matching-requires-clause-enough : goal.where_matching-requires-clause-enough
where_matching-requires-clause-enough g c = rw (← c.top_frame.ensures, ← c.len.ensures) (omega arith)

pub calls_inside-requires-clause-classes : goal.calls_inside-requires-clause-classes
calls_inside-requires-clause-classes g c = c.requires.callable.bounded.classes

pub calls_inside-requires-clause-group : goal.calls_inside-requires-clause-group
calls_inside-requires-clause-group g c = IsGroup-extends c.in_ok-matching.ensures.extends c.args.group (IsGroupIn-group _ c.args.callers.now c.args.group c.requires.callable.stands.is_group)

pub calls_inside-requires-clause-enough : goal.calls_inside-requires-clause-enough
calls_inside-requires-clause-enough g c = rw (← c.top_frame.ensures, ← c.len.ensures) (omega arith)

pub calls_inside-requires-clause-known : goal.calls_inside-requires-clause-known
calls_inside-requires-clause-known g c = c.in_ok-matching.ensures.set.known

pub calls_inside-requires-clause-inside : goal.calls_inside-requires-clause-inside
calls_inside-requires-clause-inside g c = matching_inside c.args.site.now c.args.heap.now c.args.callers.now c.args.group c.args.target.now c.args.types.now c.requires c.in_ok-matching.matching c.in_ok-matching.ensures.extends c.in_ok-matching.ensures.set

pub matching_parts-requires-clause-classes : goal.matching_parts-requires-clause-classes
matching_parts-requires-clause-classes g c = c.requires.callable.bounded.classes

pub matching_parts-requires-clause-group : goal.matching_parts-requires-clause-group
matching_parts-requires-clause-group g c = IsGroupIn-later (Extends-trans c.in_ok-matching.ensures.extends c.in_ok-calls.ensures.extends) (Keeps-refl c.args.callers.now) c.args.group c.requires.callable.stands.is_group

pub matching_parts-requires-clause-calls : goal.matching_parts-requires-clause-calls
matching_parts-requires-clause-calls g c = c.in_ok-calls.ensures.cond

pub matching_parts-requires-clause-enter : goal.matching_parts-requires-clause-enter
matching_parts-requires-clause-enter g c =
    let enough : length c.args.types.now + 1 ≤ length c.args.group.top.stack.conds = rw (← c.top_frame.ensures, ← c.len.ensures) (omega arith) in
    object_enter c.args.site.now c.args.heap.now c.args.callers.now c.args.group c.args.target.now c.args.types.now c.requires _ c.in_ok-matching.matching c.in_ok-calls.calls (omega arith) enough c.in_ok-matching.ensures.extends c.in_ok-matching.ensures.set c.in_ok-calls.ensures.extends c.in_ok-calls.ensures.cond c.in_ok-calls.ensures.scope c.in_ok-calls.ensures.at

pub returns-clause-extends : goal.returns-clause-extends
returns-clause-extends g c = Extends-trans c.in_ok-matching.ensures.extends (Extends-trans c.in_ok-calls.ensures.extends c.matching_parts.ensures.extends)

pub returns-clause-gives : goal.returns-clause-gives
returns-clause-gives g c =
    let enough : length c.args.types.now + 1 ≤ length c.args.group.top.stack.conds = rw (← c.top_frame.ensures, ← c.len.ensures) (omega arith) in
    IfOk-weaker c.matching_parts.result _ _ (λ r gives m member. object-gives c.args.site.now c.args.heap.now c.args.callers.now c.args.group c.args.target.now c.args.types.now c.requires _ c.in_ok-matching.matching c.in_ok-calls.calls (omega arith) enough c.in_ok-matching.ensures.extends c.in_ok-matching.ensures.set c.in_ok-calls.ensures.extends c.in_ok-calls.ensures.cond c.in_ok-calls.ensures.scope c.in_ok-calls.ensures.at _ c.matching_parts.new.callers m member r.items.items (gives c.args.heap.now)) c.matching_parts.ensures.gives
