use Rattle.std.proofs.Common.{◌+◌, ◌<◌, ◌∙◌, arith, sym}
use Rattle.vx_cells.specs.Places.{place_cmp}
use Rattle.vx_cells.specs.declared.place.Place.TheVariants.{Illegal}
use Rattle.vx_families.proofs.Tops.{lifting2_cond, made_of_two}
use Rattle.vx_group_states.specs.Answering.{operands_at}
use Rattle.vx_list.specs.Places.{item_or}
use Rattle.vx_value.specs.declared.slot.Slot.TheVariants.{Top}
use Rattle.vx_arrays.specs.Elements.{element_place}
use Rattle.vx_arrays.proofs.Operands.{operand_is_cond, operand_scope, operand_value, places_held, operand_held}
use Rattle.vx_arrays.proofs.Placed.{element_held}
use Rattle.vx_arrays.proofs.elements.places_under.Goals as goal

pub zip-requires-clause-first : goal.zip-requires-clause-first
zip-requires-clause-first g c =
    let few : c.args.above + 1 < c.len-count.result = rw (c.len-count.ensures, c.top_frame.ensures) c.requires.operands in
    operand_is_cond (g.S.Space.sets c.args.space.now) c.args.group.now c.top_frame.result.now c.requires.running.is_group c.top_frame.ensures c.len-count.result _ c.args.above c.get-index.result.now c.len-count.ensures c.get-index.ensures (omega arith)

pub zip-requires-clause-second : goal.zip-requires-clause-second
zip-requires-clause-second g c =
    let few : c.args.above + 1 < c.len-count.result = rw (c.len-count.ensures, c.top_frame.ensures) c.requires.operands in
    operand_is_cond (g.S.Space.sets c.args.space.now) c.args.group.now c.top_frame.result.now c.requires.running.is_group c.top_frame.ensures c.len-count.result _ (c.args.above + 1) c.get-array.result.now c.len-count.ensures c.get-array.ensures (omega arith)

pub zip-requires-clause-scopes : goal.zip-requires-clause-scopes
zip-requires-clause-scopes g c =
    let few : c.args.above + 1 < c.len-count.result = rw (c.len-count.ensures, c.top_frame.ensures) c.requires.operands in
    operand_scope (g.S.Space.sets c.args.space.now) c.args.group.now c.top_frame.result.now c.requires.running.is_group c.top_frame.ensures c.len-count.result _ c.args.above c.get-index.result.now c.len-count.ensures c.get-index.ensures (omega arith)
    ∙ sym (operand_scope (g.S.Space.sets c.args.space.now) c.args.group.now c.top_frame.result.now c.requires.running.is_group c.top_frame.ensures c.len-count.result _ (c.args.above + 1) c.get-array.result.now c.len-count.ensures c.get-array.ensures (omega arith))

pub returns-clause-cond : goal.returns-clause-cond
returns-clause-cond g c = lifting2_cond place_cmp _ _ _ _ c.in_ok-places.places c.in_ok-places.ensures.ok

pub returns-clause-scope : goal.returns-clause-scope
returns-clause-scope g c =
    let few : c.args.above + 1 < c.len-count.result = rw (c.len-count.ensures, c.top_frame.ensures) c.requires.operands in
    c.in_ok-places.ensures.scope
    ∙ operand_scope (g.S.Space.sets c.args.space.now) c.args.group.now c.top_frame.result.now c.requires.running.is_group c.top_frame.ensures c.len-count.result _ c.args.above c.get-index.result.now c.len-count.ensures c.get-index.ensures (omega arith)

pub returns-clause-at : goal.returns-clause-at
returns-clause-at g c =
    let few : c.args.above + 1 < c.len-count.result = rw (c.len-count.ensures, c.top_frame.ensures) c.requires.operands in
    let start = g.S.Space.sets c.args.space.now in
    let below = operand_value start c.args.group.now c.top_frame.result.now c.requires.running.is_group c.top_frame.ensures c.len-count.result _ (c.args.above + 1) c.get-array.result.now c.len-count.ensures c.get-array.ensures (omega arith) in
    let above = operand_value start c.args.group.now c.top_frame.result.now c.requires.running.is_group c.top_frame.ensures c.len-count.result _ c.args.above c.get-index.result.now c.len-count.ensures c.get-index.ensures (omega arith) in
    λ d t. made_of_two Illegal place_cmp start (g.S.Space.sets c.zip.new.space) _ (element_place c.args.site.now.program.now c.args.heap.now c.args.element) c.get-index.result.now c.get-array.result.now c.in_ok-places.places d _ _ (λ s r a h. h) (above d t) (below d t) c.in_ok-places.ensures.ok

pub returns-clause-held : goal.returns-clause-held
returns-clause-held g c =
    let start = g.S.Space.sets c.args.space.now in
    let p = c.args.site.now.program.now in
    let heap = c.args.heap.now in
    places_held c.in_ok-places.ensures.extends heap c.requires.running.is_heap c.args.group.now c.requires.running.is_group c.in_ok-places.places (λ d. element_place p heap c.args.element (item_or (operands_at start c.args.group.now.top.stack d) c.args.above Top) (item_or (operands_at start c.args.group.now.top.stack d) (c.args.above + 1) Top)) (returns-clause-scope g c) (returns-clause-at g c) (λ d t.
    element_held start heap d p c.args.element _ _ (operand_held c.args.site.now start heap c.args.group.now (c.args.above + 1) c.requires.running d t))
