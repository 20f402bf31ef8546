use Rattle.std.proofs.Common.{◌+◌, ◌<◌, ◌^◌, ℕ, ◌∙◌, ap, refl, sym, subst}
use Rattle.std.proofs.lemmas.Result.{IfOk-weaker}
use Rattle.vx_space.proofs.Spaces.{Extends-trans}
use Rattle.vx_group.proofs.GroupLaws.{IsGroup-extends, IsGroup-path_known}
use Rattle.vx_java.specs.Machine.{settle}
use Rattle.vx_group_states.proofs.PartLaws.{pushed-gives}
use Rattle.vx_group_states.proofs.SettleLaws.{with_stack}
use Rattle.vx_group_states.proofs.answering.pushed_part.Goals as goal

pub slots_inside-requires-clause-known : goal.slots_inside-requires-clause-known
slots_inside-requires-clause-known g c = rw c.path.ensures (IsGroup-path_known _ c.args.part c.requires.group)

pub slots_inside-requires-clause-inside : goal.slots_inside-requires-clause-inside
slots_inside-requires-clause-inside g c = rw c.path.ensures c.requires.inside

pub with_operand-requires-clause-group : goal.with_operand-requires-clause-group
with_operand-requires-clause-group g c = IsGroup-extends c.in_ok-values.ensures.extends c.args.part c.requires.group

pub with_operand-requires-clause-scope : goal.with_operand-requires-clause-scope
with_operand-requires-clause-scope g c = c.in_ok-values.ensures.scope ∙ c.path.ensures

pub settle-requires-clause-group : goal.settle-requires-clause-group
settle-requires-clause-group g c = with_stack _ c.args.part c.in_ok-group.group (IsGroup-extends c.in_ok-values.ensures.extends c.args.part c.requires.group) c.in_ok-group.ensures.same c.in_ok-group.ensures.row c.in_ok-group.ensures.scope

pub settle-requires-clause-past : goal.settle-requires-clause-past
settle-requires-clause-past g c = let P : ℕ → Type 0 = λ n. n + c.args.site.now.size < 2 ^ 32 in subst P (sym (ap (λ r. r.top.position) c.in_ok-group.ensures.same)) c.requires.past

pub returns-clause-extends : goal.returns-clause-extends
returns-clause-extends g c = Extends-trans c.in_ok-values.ensures.extends c.settle.ensures.extends

pub returns-clause-gives : goal.returns-clause-gives
returns-clause-gives g c =
    IfOk-weaker c.settle.result _ _ (λ r' h'. pushed-gives settle c.args.site.now (λ s operands. refl) _ c.args.part c.in_ok-group.group c.args.taken c.args.answers.now c.in_ok-values.values _ c.in_ok-values.ensures.extends c.in_ok-group.ensures.same c.in_ok-group.ensures.row c.in_ok-group.ensures.scope c.in_ok-group.ensures.at (rw c.path.ensures at c.in_ok-values.ensures.at) h')
    c.settle.ensures.gives
