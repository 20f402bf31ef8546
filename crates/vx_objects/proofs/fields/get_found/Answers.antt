use Rattle.std.proofs.Common.{◌<◌, ◌≤◌, ◌∙◌, arith, length}
use Rattle.std.proofs.lemmas.Result.{IfOk-weaker}
use Rattle.vx_families.proofs.Given.{IsGiven-extends, given_ready}
use Rattle.vx_ready.proofs.Given.{IsRunning-given}
use Rattle.vx_heap.proofs.HeapLaws.{IsHeap-extends}
use Rattle.vx_java.specs.Fields.{Found, get_from}
use Rattle.vx_space.proofs.Spaces.{Extends-trans}
use Rattle.vx_objects.proofs.FieldRows.{read_none}
use Rattle.vx_families.proofs.Operands.{few-attempts}
use Rattle.vx_objects.proofs.Reaching.{get-attempts}
use Rattle.vx_objects.proofs.fields.get_found.Goals as goal

pub returns-then-len-eq0-clause-ok : goal.returns-then-len-eq0-clause-ok
returns-then-len-eq0-clause-ok g c =
    let found : Found = record { named = c.args.named.0; field = c.args.field.0; type = c.args.field_type } in
    let none : length c.args.group.top.stack.conds < 1 = rw (← c.top_frame.ensures, ← c.len.ensures) (omega arith) in
    IfOk-weaker c.illegal.result _ _ (λ r gives. few-attempts c.args.site.now c.requires.0 (λ h. get_from h found) c.args.heap.now c.args.group c.requires.1 1 r.items.items none (λ h. read_none h found) (gives _)) c.illegal.ensures

pub places_read-requires-clause-running : goal.places_read-requires-clause-running
places_read-requires-clause-running g c = IsRunning-given c.args.site.now c.requires.0 _ c.args.heap.now c.args.group c.requires.1

pub places_read-requires-clause-operand : goal.places_read-requires-clause-operand
places_read-requires-clause-operand g c = rw (← c.top_frame.ensures, ← c.len.ensures) (omega arith)

pub places_read-requires-clause-few : goal.places_read-requires-clause-few
places_read-requires-clause-few g c = rw (← c.group.view_is) c.group.invariant.1

pub read_through-requires-clause-classes : goal.read_through-requires-clause-classes
read_through-requires-clause-classes g c = c.requires.1.bounded.classes

pub read_through-requires-clause-heap : goal.read_through-requires-clause-heap
read_through-requires-clause-heap g c = IsHeap-extends c.in_ok-places.ensures.extends c.args.heap.now c.requires.1.is_heap

pub carry_out-requires-clause-ready : goal.carry_out-requires-clause-ready
carry_out-requires-clause-ready g c =
    let some : 1 ≤ length c.args.group.top.stack.conds = rw (← c.top_frame.ensures, ← c.len.ensures) (omega arith) in
    let e = Extends-trans c.in_ok-places.ensures.extends c.in_ok-answers.ensures.extends in
    given_ready c.args.site.now c.requires.0 _ c.args.heap.now c.args.group 1 c.in_ok-answers.answers (IsGiven-extends c.args.site.now c.requires.0 c.args.heap.now c.args.group e c.requires.1) (omega arith) some (rw (← c.group.view_is) c.group.invariant.1) c.in_ok-answers.ensures.ok.is_cond (c.in_ok-answers.ensures.ok.scope ∙ c.in_ok-places.ensures.scope)

pub carry_out-requires-clause-scope : goal.carry_out-requires-clause-scope
carry_out-requires-clause-scope g c = c.in_ok-answers.ensures.ok.scope ∙ c.in_ok-places.ensures.scope

pub returns-clause-extends : goal.returns-clause-extends
returns-clause-extends g c = Extends-trans c.in_ok-places.ensures.extends (Extends-trans c.in_ok-answers.ensures.extends c.carry_out.ensures.extends)

pub returns-clause-ok : goal.returns-clause-ok
returns-clause-ok g c =
    let found : Found = record { named = c.args.named.0; field = c.args.field.0; type = c.args.field_type } in
    let some : 1 ≤ length c.args.group.top.stack.conds = rw (← c.top_frame.ensures, ← c.len.ensures) (omega arith) in
    IfOk-weaker c.carry_out.result _ _ (λ r gives. get-attempts c.args.site.now c.requires.0 found _ _ _ _ c.args.heap.now c.read_through.new.heap c.args.group c.in_ok-places.places c.in_ok-answers.answers r.items.items c.requires.1 some c.in_ok-places.ensures.extends c.in_ok-places.ensures.scope c.in_ok-places.ensures.at c.in_ok-answers.ensures.extends c.in_ok-answers.ensures.more c.in_ok-answers.ensures.ok c.carry_out.ensures.extends gives) c.carry_out.ensures.gives
