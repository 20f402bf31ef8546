use Rattle.std.proofs.Common.{◌∙◌, arith, sym}
use Rattle.vx_cells.specs.Places.{place_cmp}
use Rattle.vx_cond.proofs.CondLaws.{IsCond-extends}
use Rattle.vx_ready.proofs.Given.{IsRunning-given}
use Rattle.vx_group.proofs.GroupLaws.{IsGroup-extends}
use Rattle.vx_heap.proofs.HeapLaws.{IsHeap-extends}
use Rattle.vx_java.specs.FirstObjects.{narrow_of_type}
use Rattle.vx_space.proofs.Spaces.{Extends-trans}
use Rattle.vx_objects.proofs.FieldPlaces.{places_later, values_held}
use Rattle.vx_objects.proofs.fields.put_through.Goals as goal

pub places_written-requires-clause-running : goal.places_written-requires-clause-running
places_written-requires-clause-running g c = IsRunning-given c.args.site.now c.requires.given.0 _ c.args.heap.now c.args.group.now c.requires.given.1

pub places_written-requires-clause-operands : goal.places_written-requires-clause-operands
places_written-requires-clause-operands g c = omega (arith, c.requires.operands)

pub values_written-requires-clause-group : goal.values_written-requires-clause-group
values_written-requires-clause-group g c = IsGroup-extends c.in_ok-places.ensures.extends c.args.group.now c.requires.given.1.is_group

pub values_written-requires-clause-operand : goal.values_written-requires-clause-operand
values_written-requires-clause-operand g c = omega (arith, c.requires.operands)

pub write_through-requires-clause-heap : goal.write_through-requires-clause-heap
write_through-requires-clause-heap g c = IsHeap-extends (Extends-trans c.in_ok-places.ensures.extends c.in_ok-values.ensures.extends) c.args.heap.now c.requires.given.1.is_heap

pub write_through-requires-clause-places : goal.write_through-requires-clause-places
write_through-requires-clause-places g c = IsCond-extends place_cmp c.in_ok-values.ensures.extends c.in_ok-places.places c.in_ok-places.ensures.cond

pub write_through-requires-clause-scopes : goal.write_through-requires-clause-scopes
write_through-requires-clause-scopes g c = c.in_ok-values.ensures.scope ∙ sym c.in_ok-places.ensures.scope

pub write_through-requires-clause-objects : goal.write_through-requires-clause-objects
write_through-requires-clause-objects g c = places_later c.args.heap.now c.in_ok-places.places c.in_ok-values.ensures.extends (IsHeap-extends c.in_ok-places.ensures.extends c.args.heap.now c.requires.given.1.is_heap) c.in_ok-places.ensures.cond c.in_ok-places.ensures.held

pub write_through-requires-clause-held : goal.write_through-requires-clause-held
write_through-requires-clause-held g c = values_held c.args.site.now c.requires.given.0 c.args.heap.now c.args.group.now (narrow_of_type c.args.field_type) c.in_ok-values.values c.requires.given.1 c.in_ok-places.ensures.extends c.in_ok-values.ensures.extends c.in_ok-values.ensures.scope c.in_ok-values.ensures.at

pub returns-in_err-write_through-clause-extends : goal.returns-in_err-write_through-clause-extends
returns-in_err-write_through-clause-extends g c = Extends-trans c.in_ok-places.ensures.extends (Extends-trans c.in_ok-values.ensures.extends c.write_through.ensures.extends)

pub returns-clause-extends : goal.returns-clause-extends
returns-clause-extends g c = Extends-trans c.in_ok-places.ensures.extends (Extends-trans c.in_ok-values.ensures.extends c.in_ok-write_through.ensures.extends)

pub returns-clause-put : goal.returns-clause-put
returns-clause-put g c = record {
  placed = g.S.Space.sets c.places_written.new.space;
  valued = g.S.Space.sets c.values_written.new.space;
  values = c.in_ok-values.values;
  places_extend = c.in_ok-places.ensures.extends;
  valid = c.in_ok-places.ensures.cond;
  scope = c.in_ok-places.ensures.scope;
  at = c.in_ok-places.ensures.at;
  values_extend = c.in_ok-values.ensures.extends;
  value = c.in_ok-values.ensures.at;
  writing_extends = c.in_ok-write_through.ensures.extends;
  changed = c.in_ok-write_through.ensures.ok;
}
