use Rattle.std.proofs.Common.{◌≡◌, arith, length}
use Rattle.std.proofs.lemmas.Result.{IfOk-weaker}
use Rattle.vx_group.proofs.CallerLaws.{Keeps-refl}
use Rattle.vx_group.proofs.GroupLaws.{IsGroupIn-group, IsGroupIn-later}
use Rattle.vx_heap.proofs.HeapLaws.{IsHeap-extends}
use Rattle.vx_space.proofs.Spaces.{Extends-trans}
use Rattle.vx_returns.proofs.MarkLaws.{empty-attempts, fits_run, value-attempts}
use Rattle.vx_returns.proofs.returning.return_value.Goals as goal

pub returns-then-len-eq0-clause-ok : goal.returns-then-len-eq0-clause-ok
returns-then-len-eq0-clause-ok g c =
    IfOk-weaker c.illegal.result _ _ (λ r' h'.
    let none : length c.args.group.top.stack.conds ≡ 0 = rw (← c.top_frame.ensures, ← c.len.ensures) c.if-len-eq0.true in
    empty-attempts c.args.site.now c.args.sort _ c.args.heap.now c.args.callers.now c.args.group _ c.requires.returning none (h' _))
    c.illegal.ensures

pub where_of_sort-requires-clause-group : goal.where_of_sort-requires-clause-group
where_of_sort-requires-clause-group g c = IsGroupIn-group _ _ c.args.group c.requires.returning.stands.is_group

pub where_of_sort-requires-clause-operand : goal.where_of_sort-requires-clause-operand
where_of_sort-requires-clause-operand g c = rw (← c.top_frame.ensures, ← c.len.ensures) (omega arith)

pub mark_initialised-requires-clause-heap : goal.mark_initialised-requires-clause-heap
mark_initialised-requires-clause-heap g c = IsHeap-extends c.in_ok-fits.ensures.extends c.args.heap.now c.requires.returning.is_heap

pub mark_initialised-requires-clause-for_program : goal.mark_initialised-requires-clause-for_program
mark_initialised-requires-clause-for_program g c = c.requires.returning.is_for

pub mark_initialised-requires-clause-known : goal.mark_initialised-requires-clause-known
mark_initialised-requires-clause-known g c = c.in_ok-fits.ensures.set.known

pub mark_initialised-requires-clause-inside : goal.mark_initialised-requires-clause-inside
mark_initialised-requires-clause-inside g c = fits_run c.args.site.now c.args.heap.now c.args.callers.now c.args.group c.in_ok-fits.fits _ c.requires.returning c.in_ok-fits.ensures.extends c.in_ok-fits.ensures.set

pub leave_where-requires-clause-bounded : goal.leave_where-requires-clause-bounded
leave_where-requires-clause-bounded g c = c.requires.returning.bounded

pub leave_where-requires-clause-group : goal.leave_where-requires-clause-group
leave_where-requires-clause-group g c = IsGroupIn-later (Extends-trans c.in_ok-fits.ensures.extends c.in_ok-mark_initialised.ensures.extends) (Keeps-refl c.args.callers.now) c.args.group c.requires.returning.stands.is_group

pub leave_where-requires-clause-operand : goal.leave_where-requires-clause-operand
leave_where-requires-clause-operand g c = rw (← c.top_frame.ensures, ← c.len.ensures) (omega arith)

pub leave_where-requires-clause-known : goal.leave_where-requires-clause-known
leave_where-requires-clause-known g c = c.in_ok-mark_initialised.ensures.extends.known c.in_ok-fits.fits c.in_ok-fits.ensures.set.known

pub returns-in_err-mark_initialised-clause-extends : goal.returns-in_err-mark_initialised-clause-extends
returns-in_err-mark_initialised-clause-extends g c = Extends-trans c.in_ok-fits.ensures.extends c.mark_initialised.ensures.extends

pub returns-clause-extends : goal.returns-clause-extends
returns-clause-extends g c = Extends-trans c.in_ok-fits.ensures.extends (Extends-trans c.in_ok-mark_initialised.ensures.extends c.leave_where.ensures.extends)

pub returns-clause-ok : goal.returns-clause-ok
returns-clause-ok g c = IfOk-weaker c.leave_where.result _ _ (λ r gives. rw c.leave_where.ensures.callers (value-attempts c.args.site.now c.args.sort _ _ _ c.args.heap.now c.mark_initialised.new.heap c.args.callers.now c.args.group c.in_ok-fits.fits r.items.items c.requires.returning c.in_ok-fits.ensures.extends c.in_ok-fits.ensures.set c.in_ok-mark_initialised.ensures.extends c.in_ok-mark_initialised.ensures.ok c.leave_where.ensures.extends ((rw c.leave_where.ensures.callers at gives) c.mark_initialised.new.heap))) c.leave_where.ensures.gives
