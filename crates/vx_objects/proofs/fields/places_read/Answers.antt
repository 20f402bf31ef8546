use Rattle.std.proofs.Common.{◌-◌, ◌∙◌, ap, arith, length, sym}
use Rattle.vx_cells.specs.Places.{place_cmp}
use Rattle.vx_cells.specs.declared.place.Place.TheVariants.{Illegal}
use Rattle.vx_cond.proofs.CondLaws.{IsCond-extends}
use Rattle.vx_families.proofs.Tops.{lifting2_cond}
use Rattle.vx_frame.proofs.FrameLaws.{IsFrame-stack}
use Rattle.vx_group.proofs.GroupLaws.{IsGroup-extends, IsGroup-top}
use Rattle.vx_group_states.proofs.SettleLaws.{lifting_cond, stack_scope}
use Rattle.vx_java.specs.Checks.{width_of_type}
use Rattle.vx_link.specs.Parts.{field_at}
use Rattle.vx_space.proofs.Spaces.{Extends-trans}
use Rattle.vx_objects.specs.Answers.{field_place}
use Rattle.vx_families.proofs.Sizes.{width_small}
use Rattle.vx_objects.proofs.FieldPlaces.{read_at, read_held}
use Rattle.vx_families.proofs.Operands.{one_made, operand_cond, operand_scope}
use Rattle.vx_objects.proofs.fields.places_read.Goals as goal

pub map-requires-clause-valid : goal.map-requires-clause-valid
map-requires-clause-valid g c = operand_cond _ c.args.group.now _ c.top_operand.result.now c.requires.running.is_group c.top_operand.ensures

pub where_room-requires-clause-row : goal.where_room-requires-clause-row
where_room-requires-clause-row g c = rw c.top_frame.ensures (IsFrame-stack _ c.args.group.now.top (IsGroup-top _ c.args.group.now (IsGroup-extends c.in_ok-places.ensures.extends c.args.group.now c.requires.running.is_group)))

pub where_room-requires-clause-taken : goal.where_room-requires-clause-taken
where_room-requires-clause-taken g c = rw c.top_frame.ensures (omega (arith, c.requires.operand))

pub where_room-requires-clause-few : goal.where_room-requires-clause-few
where_room-requires-clause-few g c = rw c.top_frame.ensures c.requires.few

pub where_room-requires-clause-value : goal.where_room-requires-clause-value
where_room-requires-clause-value g c = rw c.width_of-width.ensures (width_small c.args.field_type)

pub zip-requires-clause-first : goal.zip-requires-clause-first
zip-requires-clause-first g c = IsCond-extends place_cmp c.in_ok-rooms.ensures.extends c.in_ok-places.places (lifting_cond place_cmp _ _ _ c.in_ok-places.places c.in_ok-places.ensures.ok)

pub zip-requires-clause-second : goal.zip-requires-clause-second
zip-requires-clause-second g c = c.in_ok-rooms.ensures.cond

pub zip-requires-clause-scopes : goal.zip-requires-clause-scopes
zip-requires-clause-scopes g c =
    c.in_ok-places.ensures.scope
    ∙ operand_scope _ c.args.group.now _ c.top_operand.result.now c.requires.running.is_group c.top_operand.ensures
    ∙ sym ((rw c.top_frame.ensures at c.in_ok-rooms.ensures.scope) ∙ stack_scope _ c.args.group.now c.requires.running.is_group)

pub returns-clause-extends : goal.returns-clause-extends
returns-clause-extends g c = Extends-trans c.in_ok-places.ensures.extends (Extends-trans c.in_ok-rooms.ensures.extends c.in_ok-within.ensures.extends)

pub returns-clause-cond : goal.returns-clause-cond
returns-clause-cond g c = lifting2_cond place_cmp _ _ _ _ c.in_ok-within.within c.in_ok-within.ensures.ok

pub returns-clause-scope : goal.returns-clause-scope
returns-clause-scope g c = c.in_ok-within.ensures.scope ∙ c.in_ok-places.ensures.scope ∙ operand_scope _ c.args.group.now _ c.top_operand.result.now c.requires.running.is_group c.top_operand.ensures

pub returns-clause-at : goal.returns-clause-at
returns-clause-at g c =
    let s0 = g.S.Space.sets c.args.space.now in
    let s1 = g.S.Space.sets c.map.new.space in
    let s2 = g.S.Space.sets c.where_room.new.space in
    let s3 = g.S.Space.sets c.zip.new.space in
    let site = c.args.site.now in
    let p = site.program.now in
    let heap = c.args.heap.now in
    let group = c.args.group.now in
    let named = c.args.named.0 in
    let cell = (field_at p c.args.field.0).cell in
    let v = c.requires.running.is_group in
    read_at site s0 s1 s2 s3 heap group named cell (width_of_type c.args.field_type) c.in_ok-places.places c.in_ok-rooms.rooms c.in_ok-within.within c.requires.running c.in_ok-places.ensures.extends (lifting_cond place_cmp _ _ _ c.in_ok-places.places c.in_ok-places.ensures.ok) (c.in_ok-places.ensures.scope ∙ operand_scope s0 group _ c.top_operand.result.now v c.top_operand.ensures)
    (one_made Illegal place_cmp s0 s1 group (length group.top.stack.conds - 1) 0 c.top_operand.result.now (field_place p heap named cell) _ c.in_ok-places.places (λ s a h. h ∙ ap (λ n. field_place p heap named n s) c.cell_of-cell.ensures) v c.top_operand.ensures (omega (arith, c.requires.operand)) c.in_ok-places.ensures.ok)
    c.in_ok-rooms.ensures.extends
    (λ d t. (rw (c.top_frame.ensures, c.width_of-width.ensures) at c.in_ok-rooms.ensures.at) d (ap (λ i. s1.test i d) (stack_scope s0 group v) ∙ t))
    _ (λ x b q h. h) c.in_ok-within.ensures.extends c.in_ok-within.ensures.ok

pub returns-clause-held : goal.returns-clause-held
returns-clause-held g c =
    let s0 = g.S.Space.sets c.args.space.now in
    let s1 = g.S.Space.sets c.map.new.space in
    let s2 = g.S.Space.sets c.where_room.new.space in
    let s3 = g.S.Space.sets c.zip.new.space in
    let site = c.args.site.now in
    let p = site.program.now in
    let heap = c.args.heap.now in
    let group = c.args.group.now in
    let named = c.args.named.0 in
    let cell = (field_at p c.args.field.0).cell in
    let v = c.requires.running.is_group in
    let scope = c.in_ok-places.ensures.scope ∙ operand_scope s0 group _ c.top_operand.result.now v c.top_operand.ensures in
    record {
      held = read_held site s0 s1 s2 s3 heap group named cell (width_of_type c.args.field_type) c.in_ok-places.places c.in_ok-rooms.rooms c.in_ok-within.within c.requires.running c.in_ok-places.ensures.extends (lifting_cond place_cmp _ _ _ c.in_ok-places.places c.in_ok-places.ensures.ok) scope
          (one_made Illegal place_cmp s0 s1 group (length group.top.stack.conds - 1) 0 c.top_operand.result.now (field_place p heap named cell) _ c.in_ok-places.places (λ s a h. h ∙ ap (λ n. field_place p heap named n s) c.cell_of-cell.ensures) v c.top_operand.ensures (omega (arith, c.requires.operand)) c.in_ok-places.ensures.ok)
          c.in_ok-rooms.ensures.extends
          (λ d t. (rw (c.top_frame.ensures, c.width_of-width.ensures) at c.in_ok-rooms.ensures.at) d (ap (λ i. s1.test i d) (stack_scope s0 group v) ∙ t))
          _ (λ x b q h. h) c.in_ok-within.ensures.extends c.in_ok-within.ensures.ok (c.in_ok-within.ensures.scope ∙ scope);
    }
