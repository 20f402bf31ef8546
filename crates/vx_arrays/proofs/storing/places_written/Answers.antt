use Rattle.std.proofs.Common.{◌<◌, ◌∙◌, sym, arith}
use Rattle.vx_cells.specs.Places.{place_cmp}
use Rattle.vx_cond.proofs.CondLaws.{IsCond-extends}
use Rattle.vx_families.proofs.Tops.{lifting2_cond}
use Rattle.vx_space.proofs.Spaces.{Extends-trans}
use Rattle.vx_value.specs.Slot.{slot_cmp}
use Rattle.vx_arrays.specs.Moving.{place_there}
use Rattle.vx_arrays.proofs.Operands.{operand_is_cond, operand_scope, operand_value, places_held}
use Rattle.vx_arrays.proofs.Stores.{there_held, written_there}
use Rattle.vx_arrays.proofs.storing.places_written.Goals as goal

pub places_under-requires-clause-operands : goal.places_under-requires-clause-operands
places_under-requires-clause-operands g c = c.requires.operands

pub zip-requires-clause-first : goal.zip-requires-clause-first
zip-requires-clause-first g c =
    let more : 2 < c.len.result = rw (c.len.ensures, c.top_frame.ensures) c.requires.operands in
    IsCond-extends slot_cmp c.in_ok-places.ensures.extends c.get-value.result.now (operand_is_cond (g.S.Space.sets c.args.space.now) c.args.group.now c.top_frame.result.now c.requires.running.is_group c.top_frame.ensures c.len.result _ 0 c.get-value.result.now c.len.ensures c.get-value.ensures (omega arith))

pub zip-requires-clause-scopes : goal.zip-requires-clause-scopes
zip-requires-clause-scopes g c =
    let more : 2 < c.len.result = rw (c.len.ensures, c.top_frame.ensures) c.requires.operands in
    operand_scope (g.S.Space.sets c.args.space.now) c.args.group.now c.top_frame.result.now c.requires.running.is_group c.top_frame.ensures c.len.result _ 0 c.get-value.result.now c.len.ensures c.get-value.ensures (omega arith)
    ∙ sym c.in_ok-places.ensures.scope

pub returns-clause-extends : goal.returns-clause-extends
returns-clause-extends g c = Extends-trans c.in_ok-places.ensures.extends c.in_ok-stored.ensures.extends

pub returns-clause-cond : goal.returns-clause-cond
returns-clause-cond g c = lifting2_cond place_cmp _ _ _ _ c.in_ok-stored.stored c.in_ok-stored.ensures.ok

pub returns-clause-scope : goal.returns-clause-scope
returns-clause-scope g c =
    let more : 2 < c.len.result = rw (c.len.ensures, c.top_frame.ensures) c.requires.operands in
    c.in_ok-stored.ensures.scope
    ∙ operand_scope (g.S.Space.sets c.args.space.now) c.args.group.now c.top_frame.result.now c.requires.running.is_group c.top_frame.ensures c.len.result _ 0 c.get-value.result.now c.len.ensures c.get-value.ensures (omega arith)

pub returns-clause-at : goal.returns-clause-at
returns-clause-at g c =
    let more : 2 < c.len.result = rw (c.len.ensures, c.top_frame.ensures) c.requires.operands in
    let start = g.S.Space.sets c.args.space.now in
    let alone = c.requires.running.is_group in
    let value = operand_is_cond start c.args.group.now c.top_frame.result.now alone c.top_frame.ensures c.len.result _ 0 c.get-value.result.now c.len.ensures c.get-value.ensures (omega arith) in
    let at = operand_value start c.args.group.now c.top_frame.result.now alone c.top_frame.ensures c.len.result _ 0 c.get-value.result.now c.len.ensures c.get-value.ensures (omega arith) in
    written_there c.args.site.now c.args.element (g.S.Space.sets c.zip.new.space) c.args.heap.now c.args.group.now c.get-value.result.now c.in_ok-places.places c.in_ok-stored.stored _ alone c.in_ok-places.ensures.extends value at c.in_ok-places.ensures.cond c.in_ok-places.ensures.scope c.in_ok-places.ensures.at (λ s x y h. h) c.in_ok-stored.ensures.ok

pub returns-clause-held : goal.returns-clause-held
returns-clause-held g c =
    let start = g.S.Space.sets c.args.space.now in
    places_held (returns-clause-extends g c) c.args.heap.now c.requires.running.is_heap c.args.group.now c.requires.running.is_group c.in_ok-stored.stored (place_there c.args.site.now c.args.element start c.args.heap.now c.args.group.now) (returns-clause-scope g c) (returns-clause-at g c) (there_held c.args.site.now c.args.element start c.args.heap.now c.args.group.now c.requires.running)
