use Rattle.std.proofs.Common.{◌∙◌, refl}
use Rattle.std.proofs.lemmas.Result.{IfOk-weaker}
use Rattle.vx_value.specs.Slot.{slot_cmp}
use Rattle.vx_space.proofs.Spaces.{Extends-trans}
use Rattle.vx_cond.proofs.SideLaws.{IsRow-scope_known}
use Rattle.vx_group.proofs.GroupLaws.{IsGroup-extends}
use Rattle.vx_group_states.proofs.Gathering.{AreLeaves-of, Cover-answers}
use Rattle.vx_families.proofs.Given.{given_stack, given_stack_scope}
use Rattle.vx_stack.specs.Exact.{cut_cmp}
use Rattle.vx_stack.proofs.FormLaws.{all_possible, attempt-by}
use Rattle.vx_stack.proofs.forming.attempt.Goals as goal

pub cuts-requires : goal.cuts-requires
cuts-requires g c = record { row = rw c.top_frame.ensures (given_stack c.args.site.now c.args.operation _ c.args.heap.now c.args.group c.requires.given) }

pub cut_parts-requires-clause-group : goal.cut_parts-requires-clause-group
cut_parts-requires-clause-group g c = IsGroup-extends c.in_ok-found.ensures.extends c.args.group c.requires.given.is_group

pub cut_parts-requires-clause-cuts : goal.cut_parts-requires-clause-cuts
cut_parts-requires-clause-cuts g c = rw c.leaves.ensures (AreLeaves-of cut_cmp _ c.in_ok-found.found c.in_ok-found.ensures.cond)

pub cut_parts-requires-clause-cover : goal.cut_parts-requires-clause-cover
cut_parts-requires-clause-cover g c = rw c.leaves.ensures (Cover-answers cut_cmp _ _ c.in_ok-found.found c.in_ok-found.ensures.cond ((rw c.top_frame.ensures at c.in_ok-found.ensures.scope) ∙ given_stack_scope c.args.site.now c.args.operation _ c.args.heap.now c.args.group c.requires.given))

pub cut_parts-requires-clause-possible : goal.cut_parts-requires-clause-possible
cut_parts-requires-clause-possible g c =
    let found = rw c.top_frame.ensures at c.in_ok-found.ensures in
    let row = given_stack c.args.site.now c.args.operation _ c.args.heap.now c.args.group c.requires.given in
    rw c.leaves.ensures (all_possible (g.S.Space.sets c.args.space.now) _ c.args.group.top.stack c.in-Stack.form c.in_ok-found.found _ found.extends (IsRow-scope_known slot_cmp _ c.args.group.top.stack row) found.cond found.scope refl found.at)

pub returns-clause-extends : goal.returns-clause-extends
returns-clause-extends g c = Extends-trans c.in_ok-found.ensures.extends c.cut_parts.ensures.extends

pub returns-clause-ok : goal.returns-clause-ok
returns-clause-ok g c =
    IfOk-weaker c.cut_parts.result _ _ (λ r' h'. attempt-by c.args.site.now c.args.operation c.args.heap.now c.args.group c.in-Stack.form c.in_ok-found.found _ c.in-Stack.is c.in_ok-found.ensures.extends c.cut_parts.ensures.extends c.requires.given (rw c.top_frame.ensures at c.in_ok-found.ensures.at) (rw (c.leaves.ensures, c.order_of.ensures) at h'))
    c.cut_parts.ensures.gives
