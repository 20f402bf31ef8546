use Rattle.std.proofs.Common.{◌-◌, ◌<◌, ◌≤◌, ◌∙◌, arith, length, refl}
use Rattle.std.proofs.lemmas.Result.{IfOk-weaker}
use Rattle.vx_families.proofs.Given.{IsGiven-extends, given_ready}
use Rattle.vx_group_states.specs.Answers.{answer_cmp}
use Rattle.vx_group_states.specs.Sites.{here}
use Rattle.vx_group_states.specs.Stands.{state_at}
use Rattle.vx_group_states.specs.declared.answer.Answer.TheVariants.{Illegal}
use Rattle.vx_group_states.proofs.SettleLaws.{lifting_cond}
use Rattle.vx_list.specs.Places.{item_or}
use Rattle.vx_space.proofs.Spaces.{Extends-trans}
use Rattle.vx_value.specs.declared.slot.Slot.TheVariants.{Top}
use Rattle.vx_objects.specs.Answers.{told, told_top}
use Rattle.vx_families.proofs.Operands.{few-attempts, made-attempts, one_made, operand_cond, operand_scope}
use Rattle.vx_objects.proofs.Rows.{told_held, told_none, told_row}
use Rattle.vx_objects.proofs.casting.told_top.Goals as goal

pub returns-then-len-eq0-clause-ok : goal.returns-then-len-eq0-clause-ok
returns-then-len-eq0-clause-ok g c =
    IfOk-weaker c.illegal.result _ _ (λ r' h'.
    let none : length c.args.group.top.stack.conds < 1 = rw (← c.top_frame.ensures, ← c.len.ensures) (omega arith) in
    few-attempts c.args.site.now c.requires.0 (λ h. told_top h c.args.wanted.0) c.args.heap.now c.args.group c.requires.1 1 _ none (λ h. told_none h c.args.wanted.0) (h' _))
    c.illegal.ensures

pub top_operand-requires : goal.top_operand-requires
top_operand-requires g c = rw (← c.top_frame.ensures, ← c.len.ensures) (omega arith)

pub map-requires-clause-valid : goal.map-requires-clause-valid
map-requires-clause-valid g c = operand_cond _ c.args.group _ c.top_operand.result.now c.requires.1.is_group c.top_operand.ensures

pub carry_out-requires-clause-ready : goal.carry_out-requires-clause-ready
carry_out-requires-clause-ready g c =
    let some : 1 ≤ length c.args.group.top.stack.conds = rw (← c.top_frame.ensures, ← c.len.ensures) (omega arith) in
    let e = c.in_ok-answers.ensures.extends in
    given_ready c.args.site.now c.requires.0 _ c.args.heap.now c.args.group 1 c.in_ok-answers.answers (IsGiven-extends c.args.site.now c.requires.0 c.args.heap.now c.args.group e c.requires.1) (omega arith) some (rw (← c.group.view_is) c.group.invariant.1) (lifting_cond answer_cmp _ _ _ c.in_ok-answers.answers c.in_ok-answers.ensures.ok) (c.in_ok-answers.ensures.scope ∙ operand_scope _ c.args.group _ c.top_operand.result.now c.requires.1.is_group c.top_operand.ensures)

pub carry_out-requires-clause-scope : goal.carry_out-requires-clause-scope
carry_out-requires-clause-scope g c = c.in_ok-answers.ensures.scope ∙ operand_scope _ c.args.group _ c.top_operand.result.now c.requires.1.is_group c.top_operand.ensures

pub returns-clause-extends : goal.returns-clause-extends
returns-clause-extends g c = Extends-trans c.in_ok-answers.ensures.extends c.carry_out.ensures.extends

pub returns-clause-ok : goal.returns-clause-ok
returns-clause-ok g c =
    IfOk-weaker c.carry_out.result _ _ (λ r' h'.
    let s0 = g.S.Space.sets c.args.space.now in
    let site = c.args.site.now in
    let p = site.program.now in
    let heap = c.args.heap.now in
    let group = c.args.group in
    let wanted = c.args.wanted.0 in
    let some : 1 ≤ length group.top.stack.conds = rw (← c.top_frame.ensures, ← c.len.ensures) (omega arith) in
    made-attempts site c.requires.0 (λ h. told_top h wanted) heap group c.requires.1 1 _ c.in_ok-answers.answers (λ slots. told p heap wanted (item_or slots 0 Top)) some c.in_ok-answers.ensures.extends c.carry_out.ensures.extends
    (one_made Illegal answer_cmp s0 _ group (length group.top.stack.conds - 1) 0 c.top_operand.result.now (told p heap wanted) _ c.in_ok-answers.answers (λ s a h. h) c.requires.1.is_group c.top_operand.ensures (omega (arith, some)) c.in_ok-answers.ensures.ok)
    (λ sets d slots h. told_held sets heap d p wanted (item_or slots 0 Top))
    (λ tree d slots l h. told_row s0 heap d (here site (state_at s0 heap tree group d)) wanted slots refl l h)
    h')
    c.carry_out.ensures.gives
