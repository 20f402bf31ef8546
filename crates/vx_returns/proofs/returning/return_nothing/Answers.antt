use Rattle.std.proofs.lemmas.Result.{IfOk-weaker}
use Rattle.vx_group.proofs.CallerLaws.{Keeps-refl}
use Rattle.vx_group.proofs.GroupLaws.{IsGroup-path_known, IsGroupIn-group, IsGroupIn-later}
use Rattle.vx_space.proofs.Spaces.{Extends-trans}
use Rattle.vx_returns.proofs.MarkLaws.{nothing-attempts}
use Rattle.vx_returns.proofs.returning.return_nothing.Goals as goal

pub mark_initialised-requires-clause-heap : goal.mark_initialised-requires-clause-heap
mark_initialised-requires-clause-heap g c = c.requires.returning.is_heap

pub mark_initialised-requires-clause-for_program : goal.mark_initialised-requires-clause-for_program
mark_initialised-requires-clause-for_program g c = c.requires.returning.is_for

pub mark_initialised-requires-clause-known : goal.mark_initialised-requires-clause-known
mark_initialised-requires-clause-known g c = rw c.path.ensures (IsGroup-path_known _ c.args.group (IsGroupIn-group _ _ c.args.group c.requires.returning.stands.is_group))

pub mark_initialised-requires-clause-inside : goal.mark_initialised-requires-clause-inside
mark_initialised-requires-clause-inside g c = rw c.path.ensures c.requires.returning.stands.runs

pub leave-requires-clause-bounded : goal.leave-requires-clause-bounded
leave-requires-clause-bounded g c = c.requires.returning.bounded

pub leave-requires-clause-group : goal.leave-requires-clause-group
leave-requires-clause-group g c = IsGroupIn-later c.in_ok-mark_initialised.ensures.extends (Keeps-refl c.args.callers.now) c.args.group c.requires.returning.stands.is_group

pub returns-clause-extends : goal.returns-clause-extends
returns-clause-extends g c = Extends-trans c.in_ok-mark_initialised.ensures.extends c.leave.ensures.extends

pub returns-clause-ok : goal.returns-clause-ok
returns-clause-ok g c = IfOk-weaker c.leave.result _ _ (λ r gives. rw c.leave.ensures.callers (nothing-attempts c.args.site.now _ _ _ c.args.heap.now c.mark_initialised.new.heap c.args.callers.now c.args.group r.items.items c.requires.returning c.in_ok-mark_initialised.ensures.extends (rw c.path.ensures at c.in_ok-mark_initialised.ensures.ok) c.leave.ensures.extends ((rw c.leave.ensures.callers at gives) c.mark_initialised.new.heap))) c.leave.ensures.gives
