use Rattle.std.proofs.Common.{◌∙◌, sym}
use Rattle.vx_cells.specs.Places.{place_cmp}
use Rattle.vx_cond.proofs.CondLaws.{IsCond-extends}
use Rattle.vx_families.proofs.Tops.{lifting2_cond}
use Rattle.vx_frame.proofs.FrameLaws.{IsFrame-stack}
use Rattle.vx_group.proofs.GroupLaws.{IsGroup-extends, IsGroup-top}
use Rattle.vx_group_states.specs.Answering.{operands_at}
use Rattle.vx_group_states.proofs.SettleLaws.{stack_scope}
use Rattle.vx_space.proofs.Spaces.{Extends-trans}
use Rattle.vx_arrays.specs.Elements.{loaded_place}
use Rattle.vx_arrays.proofs.Loads.{read_held, read_place}
use Rattle.vx_arrays.proofs.Operands.{places_held}
use Rattle.vx_arrays.proofs.loading.places_read.Goals as goal

pub where_room-requires-clause-row : goal.where_room-requires-clause-row
where_room-requires-clause-row g c = rw c.top_frame.ensures (IsFrame-stack _ c.args.group.now.top (IsGroup-top _ c.args.group.now (IsGroup-extends c.in_ok-places.ensures.extends c.args.group.now c.requires.running.is_group)))

pub where_room-requires-clause-taken : goal.where_room-requires-clause-taken
where_room-requires-clause-taken g c = rw c.top_frame.ensures c.requires.operands

pub where_room-requires-clause-few : goal.where_room-requires-clause-few
where_room-requires-clause-few g c = rw c.top_frame.ensures c.requires.few

pub zip-requires-clause-first : goal.zip-requires-clause-first
zip-requires-clause-first g c = IsCond-extends place_cmp c.in_ok-rooms.ensures.extends c.in_ok-places.places c.in_ok-places.ensures.cond

pub zip-requires-clause-scopes : goal.zip-requires-clause-scopes
zip-requires-clause-scopes g c = c.in_ok-places.ensures.scope ∙ sym ((rw c.top_frame.ensures at c.in_ok-rooms.ensures.scope) ∙ stack_scope (g.S.Space.sets c.args.space.now) c.args.group.now c.requires.running.is_group)

pub returns-clause-extends : goal.returns-clause-extends
returns-clause-extends g c = Extends-trans c.in_ok-places.ensures.extends (Extends-trans c.in_ok-rooms.ensures.extends c.in_ok-within.ensures.extends)

pub returns-clause-cond : goal.returns-clause-cond
returns-clause-cond g c = lifting2_cond place_cmp _ _ _ _ c.in_ok-within.within c.in_ok-within.ensures.ok

pub returns-clause-scope : goal.returns-clause-scope
returns-clause-scope g c = c.in_ok-within.ensures.scope ∙ c.in_ok-places.ensures.scope

pub returns-clause-at : goal.returns-clause-at
returns-clause-at g c = read_place c.args.site.now c.args.element (g.S.Space.sets c.zip.new.space) c.args.heap.now c.args.group.now c.top_frame.result.now c.width_of.result c.in_ok-places.places c.in_ok-within.within c.in_ok-rooms.rooms _ c.requires.running.is_group c.top_frame.ensures c.in_ok-places.ensures.extends c.in_ok-rooms.ensures.extends c.in_ok-places.ensures.cond c.in_ok-places.ensures.scope c.in_ok-places.ensures.at c.width_of.ensures c.in_ok-rooms.ensures.at (λ x b y h. h) c.in_ok-within.ensures.ok

pub returns-clause-held : goal.returns-clause-held
returns-clause-held g c =
    let start = g.S.Space.sets c.args.space.now in
    places_held (returns-clause-extends g c) c.args.heap.now c.requires.running.is_heap c.args.group.now c.requires.running.is_group c.in_ok-within.within (λ d. loaded_place c.args.site.now c.args.heap.now c.args.element (operands_at start c.args.group.now.top.stack d)) (returns-clause-scope g c) (returns-clause-at g c) (read_held c.args.site.now c.args.element start c.args.heap.now c.args.group.now c.requires.running)
