use Rattle.std.proofs.lemmas.Result.{IfOk-weaker}
use Rattle.vx_cond.proofs.CondLaws.{IsCond-extends}
use Rattle.vx_group.proofs.CallerLaws.{Keeps-refl}
use Rattle.vx_group.proofs.GroupLaws.{IsGroup-path_known, IsGroupIn-group, IsGroupIn-later}
use Rattle.vx_group.specs.Group.{path_of}
use Rattle.vx_group_states.proofs.Gathering.{AreLeaves-of, Cover-answers}
use Rattle.vx_heap.proofs.HeapLaws.{IsHeap-extends}
use Rattle.vx_space.proofs.Spaces.{Extends-trans}
use Rattle.vx_init.proofs.PartLaws.{begun-attempts, rises_run}
use Rattle.vx_init.specs.Rises.{rise_cmp}
use Rattle.vx_init.proofs.beginning.begin.Goals as goal

pub rises-requires-clause-classes : goal.rises-requires-clause-classes
rises-requires-clause-classes g c = c.requires.classes

pub rises-requires-clause-heap : goal.rises-requires-clause-heap
rises-requires-clause-heap g c = c.requires.is_heap

pub rises-requires-clause-program : goal.rises-requires-clause-program
rises-requires-clause-program g c = c.requires.is_for

pub rises-requires-clause-known : goal.rises-requires-clause-known
rises-requires-clause-known g c = rw c.path.ensures (IsGroup-path_known _ c.args.group (IsGroupIn-group _ c.args.callers.now c.args.group c.requires.stands.is_group))

pub rises-requires-clause-inside : goal.rises-requires-clause-inside
rises-requires-clause-inside g c = rw c.path.ensures c.requires.stands.runs

pub mark_rises-requires-clause-heap : goal.mark_rises-requires-clause-heap
mark_rises-requires-clause-heap g c = IsHeap-extends c.in_ok-rises.ensures.extends c.args.heap.now c.requires.is_heap

pub mark_rises-requires-clause-program : goal.mark_rises-requires-clause-program
mark_rises-requires-clause-program g c = c.requires.is_for

pub mark_rises-requires-clause-leaves : goal.mark_rises-requires-clause-leaves
mark_rises-requires-clause-leaves g c = rw c.leaves.ensures (AreLeaves-of rise_cmp _ c.in_ok-rises.rises c.in_ok-rises.ensures.cond)

pub mark_rises-requires-clause-inside : goal.mark_rises-requires-clause-inside
mark_rises-requires-clause-inside g c = rw c.leaves.ensures (rises_run c.args.program.now _ _ c.args.heap.now c.args.callers.now c.args.group c.args.class.0 c.in_ok-rises.rises c.requires c.in_ok-rises.ensures.extends c.in_ok-rises.ensures.cond (rw c.path.ensures at c.in_ok-rises.ensures.scope))

pub begun_parts-requires-clause-classes : goal.begun_parts-requires-clause-classes
begun_parts-requires-clause-classes g c = c.requires.classes

pub begun_parts-requires-clause-group : goal.begun_parts-requires-clause-group
begun_parts-requires-clause-group g c = IsGroupIn-later (Extends-trans c.in_ok-rises.ensures.extends c.in_ok-mark_rises.ensures.extends) (Keeps-refl c.args.callers.now) c.args.group c.requires.stands.is_group

pub begun_parts-requires-clause-leaves : goal.begun_parts-requires-clause-leaves
begun_parts-requires-clause-leaves g c = rw c.leaves-2.ensures (AreLeaves-of rise_cmp _ c.in_ok-rises.rises (IsCond-extends rise_cmp c.in_ok-mark_rises.ensures.extends c.in_ok-rises.rises c.in_ok-rises.ensures.cond))

pub begun_parts-requires-clause-cover : goal.begun_parts-requires-clause-cover
begun_parts-requires-clause-cover g c = rw c.leaves-2.ensures (Cover-answers rise_cmp _ (path_of c.args.group) c.in_ok-rises.rises (IsCond-extends rise_cmp c.in_ok-mark_rises.ensures.extends c.in_ok-rises.rises c.in_ok-rises.ensures.cond) (rw c.path.ensures at c.in_ok-rises.ensures.scope))

pub returns-clause-extends : goal.returns-clause-extends
returns-clause-extends g c = Extends-trans c.in_ok-rises.ensures.extends (Extends-trans c.in_ok-mark_rises.ensures.extends c.begun_parts.ensures.extends)

pub returns-clause-begun : goal.returns-clause-begun
returns-clause-begun g c =
    IfOk-weaker c.begun_parts.result _ _ (λ r gives. begun-attempts c.args.program.now (g.S.Space.sets c.args.space.now) (g.S.Space.sets c.rises.new.space) c.args.heap.now c.args.callers.now c.args.group c.args.class.0 c.in_ok-rises.rises c.requires c.in_ok-rises.ensures.extends c.in_ok-rises.ensures.cond (rw c.path.ensures at c.in_ok-rises.ensures.scope) (g.S.Space.sets c.mark_rises.new.space) c.mark_rises.new.heap _ c.depth.ensures (rw c.path.ensures at c.in_ok-rises.ensures.at) c.in_ok-mark_rises.ensures.extends (rw c.leaves.ensures at c.in_ok-mark_rises.ensures.ok) _ c.begun_parts.new.callers r.items.items c.begun_parts.ensures.extends c.begun_parts.ensures.keeps (rw c.leaves-2.ensures at gives c.mark_rises.new.heap)) c.begun_parts.ensures.gives
