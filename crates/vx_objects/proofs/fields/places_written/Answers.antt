use Rattle.std.proofs.Common.{◌-◌, ◌≤◌, ◌∙◌, ap, arith, length, sym}
use Rattle.vx_cells.specs.Places.{place_cmp}
use Rattle.vx_cells.specs.declared.place.Place.TheVariants.{Illegal}
use Rattle.vx_families.proofs.Tops.{lifting2_cond}
use Rattle.vx_families.specs.Sorts.{slot_fits}
use Rattle.vx_group_states.specs.Answering.{operands_at}
use Rattle.vx_java.specs.Checks.{sort_of}
use Rattle.vx_link.specs.Parts.{field_at}
use Rattle.vx_list.specs.Places.{item_or}
use Rattle.vx_value.specs.declared.slot.Slot.TheVariants.{Top}
use Rattle.vx_objects.specs.Answers.{stored_place}
use Rattle.vx_objects.proofs.FieldPlaces.{written_held}
use Rattle.vx_families.proofs.Operands.{operand_cond, operand_scope, two_made}
use Rattle.vx_objects.proofs.fields.places_written.Goals as goal

pub top_operand-requires : goal.top_operand-requires
top_operand-requires g c = omega (arith, c.requires.operands)

pub zip-requires-clause-first : goal.zip-requires-clause-first
zip-requires-clause-first g c = operand_cond _ c.args.group.now _ c.top_operand.result.now c.requires.running.is_group c.top_operand.ensures

pub zip-requires-clause-second : goal.zip-requires-clause-second
zip-requires-clause-second g c = operand_cond _ c.args.group.now _ c.second_operand.result.now c.requires.running.is_group c.second_operand.ensures

pub zip-requires-clause-scopes : goal.zip-requires-clause-scopes
zip-requires-clause-scopes g c = operand_scope _ c.args.group.now _ c.top_operand.result.now c.requires.running.is_group c.top_operand.ensures ∙ sym (operand_scope _ c.args.group.now _ c.second_operand.result.now c.requires.running.is_group c.second_operand.ensures)

pub returns-clause-cond : goal.returns-clause-cond
returns-clause-cond g c = lifting2_cond place_cmp _ _ _ _ c.in_ok-places.places c.in_ok-places.ensures.ok

pub returns-clause-scope : goal.returns-clause-scope
returns-clause-scope g c = c.in_ok-places.ensures.scope ∙ operand_scope _ c.args.group.now _ c.top_operand.result.now c.requires.running.is_group c.top_operand.ensures

pub returns-clause-at : goal.returns-clause-at
returns-clause-at g c =
    let s0 = g.S.Space.sets c.args.space.now in
    let p = c.args.site.now.program.now in
    let heap = c.args.heap.now in
    let group = c.args.group.now in
    let named = c.args.named.0 in
    let sort = sort_of c.args.field_type in
    let cell = (field_at p c.args.field.0).cell in
    let some : 2 ≤ length group.top.stack.conds = omega (arith, c.requires.operands) in
    two_made Illegal place_cmp s0 _ group (length group.top.stack.conds - 1) (length group.top.stack.conds - 2) 0 1 c.top_operand.result.now c.second_operand.result.now (stored_place p heap named cell sort) _ c.in_ok-places.places (λ s r a h. h ∙ ap (λ n. stored_place p heap named n sort s r) c.cell_of-cell.ensures) c.requires.running.is_group c.top_operand.ensures c.second_operand.ensures (omega (arith, some)) (omega (arith, some)) c.in_ok-places.ensures.ok

pub returns-clause-held : goal.returns-clause-held
returns-clause-held g c =
    let s0 = g.S.Space.sets c.args.space.now in
    let p = c.args.site.now.program.now in
    let heap = c.args.heap.now in
    let group = c.args.group.now in
    let named = c.args.named.0 in
    let sort = sort_of c.args.field_type in
    let cell = (field_at p c.args.field.0).cell in
    let v = c.requires.running.is_group in
    let some : 2 ≤ length group.top.stack.conds = omega (arith, c.requires.operands) in
    record {
      held = written_held c.args.site.now s0 _ heap group named cell (λ d. slot_fits sort (item_or (operands_at s0 group.top.stack d) 0 Top)) c.in_ok-places.places c.requires.running c.in_ok-places.ensures.extends (c.in_ok-places.ensures.scope ∙ operand_scope s0 group _ c.top_operand.result.now v c.top_operand.ensures)
          (two_made Illegal place_cmp s0 _ group (length group.top.stack.conds - 1) (length group.top.stack.conds - 2) 0 1 c.top_operand.result.now c.second_operand.result.now (stored_place p heap named cell sort) _ c.in_ok-places.places (λ s r a h. h ∙ ap (λ n. stored_place p heap named n sort s r) c.cell_of-cell.ensures) v c.top_operand.ensures c.second_operand.ensures (omega (arith, some)) (omega (arith, some)) c.in_ok-places.ensures.ok);
    }
