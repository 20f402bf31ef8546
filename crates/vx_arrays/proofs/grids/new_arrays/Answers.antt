use Rattle.std.proofs.Common.{◌≤◌, length, refl}
use Rattle.std.proofs.lemmas.Result.{IfOk-weaker}
use Rattle.vx_frame.proofs.FrameLaws.{IsFrame-stack}
use Rattle.vx_group.proofs.GroupLaws.{IsGroup-top}
use Rattle.vx_space.proofs.Spaces.{Extends-trans}
use Rattle.vx_arrays.proofs.GridRows.{grids-attempts, grids-of, grids-ready, illegal-attempts}
use Rattle.vx_arrays.proofs.grids.new_arrays.Goals as goal

pub returns-then-is_lacking-clause-ok : goal.returns-then-is_lacking-clause-ok
returns-then-is_lacking-clause-ok g c =
    IfOk-weaker c.illegal.result _ _ (λ r' h'.
    illegal-attempts c.args.site.now c.args.class.0 c.args.dimensions c.args.heap.now c.args.group c.requires.running _
    (rw (c.len.ensures, c.top_frame.ensures) at c.if-is_lacking.ensures.yes refl)
    (h' _))
    c.illegal.ensures

pub answers_of-requires-clause-classes : goal.answers_of-requires-clause-classes
answers_of-requires-clause-classes g c = c.requires.running.classes

pub answers_of-requires-clause-heap : goal.answers_of-requires-clause-heap
answers_of-requires-clause-heap g c = c.requires.running.is_heap

pub answers_of-requires-clause-stack : goal.answers_of-requires-clause-stack
answers_of-requires-clause-stack g c = rw c.top_frame.ensures (IsFrame-stack _ c.args.group.top (IsGroup-top _ c.args.group c.requires.running.is_group))

pub carry_out-requires-clause-ready : goal.carry_out-requires-clause-ready
carry_out-requires-clause-ready g c =
    let made = grids-of c.args.site.now.program.now c.args.class.0 c.args.dimensions c.args.heap.now c.answers_of.new.heap c.args.group c.top_frame.result.now c.in_ok-answers.answers c.top_frame.ensures c.requires.running.is_group c.in_ok-answers.ensures.ok in
    let some = (c.if-is_lacking.ensures.no refl).0 in
    let enough : c.args.dimensions ≤ length c.args.group.top.stack.conds = rw (c.len.ensures, c.top_frame.ensures) at (c.if-is_lacking.ensures.no refl).1 in
    grids-ready c.args.site.now c.args.class.0 c.args.dimensions c.args.heap.now c.args.group c.requires.running c.answers_of.new.heap c.in_ok-answers.answers some enough c.in_ok-answers.ensures.extends made (rw (← c.group.view_is) c.group.invariant.1)

pub carry_out-requires-clause-scope : goal.carry_out-requires-clause-scope
carry_out-requires-clause-scope g c = (grids-of c.args.site.now.program.now c.args.class.0 c.args.dimensions c.args.heap.now c.answers_of.new.heap c.args.group c.top_frame.result.now c.in_ok-answers.answers c.top_frame.ensures c.requires.running.is_group c.in_ok-answers.ensures.ok).scope

pub returns-clause-extends : goal.returns-clause-extends
returns-clause-extends g c = Extends-trans c.in_ok-answers.ensures.extends c.carry_out.ensures.extends

pub returns-clause-ok : goal.returns-clause-ok
returns-clause-ok g c =
    IfOk-weaker c.carry_out.result _ _ (λ r' h'.
    let made = grids-of c.args.site.now.program.now c.args.class.0 c.args.dimensions c.args.heap.now c.answers_of.new.heap c.args.group c.top_frame.result.now c.in_ok-answers.answers c.top_frame.ensures c.requires.running.is_group c.in_ok-answers.ensures.ok in
    let some = (c.if-is_lacking.ensures.no refl).0 in
    let enough : c.args.dimensions ≤ length c.args.group.top.stack.conds = rw (c.len.ensures, c.top_frame.ensures) at (c.if-is_lacking.ensures.no refl).1 in
    grids-attempts c.args.site.now c.args.class.0 c.args.dimensions c.args.heap.now c.args.group c.requires.running c.answers_of.new.heap c.in_ok-answers.answers some enough c.in_ok-answers.ensures.extends made _ c.carry_out.ensures.extends h')
    c.carry_out.ensures.gives
