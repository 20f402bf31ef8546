use Rattle.std.proofs.Common.{◌<◌, ◌∙◌, sym, arith}
use Rattle.vx_cond.proofs.CondLaws.{IsCond-extends}
use Rattle.vx_families.proofs.Tops.{lifting2_cond}
use Rattle.vx_frame.proofs.FrameLaws.{IsFrame-stack}
use Rattle.vx_group.proofs.GroupLaws.{IsGroup-top}
use Rattle.vx_group_states.specs.Answers.{answer_cmp}
use Rattle.vx_group_states.proofs.SettleLaws.{stack_scope}
use Rattle.vx_space.proofs.Spaces.{Extends-trans}
use Rattle.vx_value.specs.Slot.{slot_cmp}
use Rattle.vx_arrays.proofs.Loads.{length_answer}
use Rattle.vx_arrays.proofs.Operands.{operand_is_cond, operand_scope, operand_value}
use Rattle.vx_arrays.proofs.loading.lengths_at.Goals as goal

pub where_room-requires-clause-row : goal.where_room-requires-clause-row
where_room-requires-clause-row g c = rw c.top_frame.ensures (IsFrame-stack _ c.args.group.now.top (IsGroup-top _ c.args.group.now c.requires.running.is_group))

pub where_room-requires-clause-taken : goal.where_room-requires-clause-taken
where_room-requires-clause-taken g c = rw c.top_frame.ensures c.requires.operand

pub where_room-requires-clause-few : goal.where_room-requires-clause-few
where_room-requires-clause-few g c = rw c.top_frame.ensures c.requires.few

pub zip-requires-clause-first : goal.zip-requires-clause-first
zip-requires-clause-first g c =
    let one : 0 < c.len.result = rw (c.len.ensures, c.top_frame.ensures) c.requires.operand in
    IsCond-extends slot_cmp c.in_ok-rooms.ensures.extends c.get-array.result.now (operand_is_cond (g.S.Space.sets c.args.space.now) c.args.group.now c.top_frame.result.now c.requires.running.is_group c.top_frame.ensures c.len.result _ 0 c.get-array.result.now c.len.ensures c.get-array.ensures (omega arith))

pub zip-requires-clause-scopes : goal.zip-requires-clause-scopes
zip-requires-clause-scopes g c =
    let one : 0 < c.len.result = rw (c.len.ensures, c.top_frame.ensures) c.requires.operand in
    operand_scope (g.S.Space.sets c.args.space.now) c.args.group.now c.top_frame.result.now c.requires.running.is_group c.top_frame.ensures c.len.result _ 0 c.get-array.result.now c.len.ensures c.get-array.ensures (omega arith)
    ∙ sym ((rw c.top_frame.ensures at c.in_ok-rooms.ensures.scope) ∙ stack_scope (g.S.Space.sets c.args.space.now) c.args.group.now c.requires.running.is_group)

pub returns-clause-extends : goal.returns-clause-extends
returns-clause-extends g c = Extends-trans c.in_ok-rooms.ensures.extends c.in_ok-answers.ensures.extends

pub returns-clause-cond : goal.returns-clause-cond
returns-clause-cond g c = lifting2_cond answer_cmp _ _ _ _ c.in_ok-answers.answers c.in_ok-answers.ensures.ok

pub returns-clause-scope : goal.returns-clause-scope
returns-clause-scope g c =
    let one : 0 < c.len.result = rw (c.len.ensures, c.top_frame.ensures) c.requires.operand in
    c.in_ok-answers.ensures.scope
    ∙ operand_scope (g.S.Space.sets c.args.space.now) c.args.group.now c.top_frame.result.now c.requires.running.is_group c.top_frame.ensures c.len.result _ 0 c.get-array.result.now c.len.ensures c.get-array.ensures (omega arith)

pub returns-clause-at : goal.returns-clause-at
returns-clause-at g c =
    let one : 0 < c.len.result = rw (c.len.ensures, c.top_frame.ensures) c.requires.operand in
    let start = g.S.Space.sets c.args.space.now in
    let alone = c.requires.running.is_group in
    let value = operand_is_cond start c.args.group.now c.top_frame.result.now alone c.top_frame.ensures c.len.result _ 0 c.get-array.result.now c.len.ensures c.get-array.ensures (omega arith) in
    let at = operand_value start c.args.group.now c.top_frame.result.now alone c.top_frame.ensures c.len.result _ 0 c.get-array.result.now c.len.ensures c.get-array.ensures (omega arith) in
    length_answer c.args.site.now (g.S.Space.sets c.zip.new.space) c.args.heap.now c.args.group.now c.top_frame.result.now c.get-array.result.now c.in_ok-rooms.rooms c.in_ok-answers.answers c.core_class-null.result _ alone c.top_frame.ensures c.in_ok-rooms.ensures.extends value at c.in_ok-rooms.ensures.at c.core_class-null.ensures (λ x b y h. h) c.in_ok-answers.ensures.ok
