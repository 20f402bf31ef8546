use Rattle.std.proofs.Common.{◌∙◌, sym, arith}
use Rattle.vx_cells.specs.Places.{place_cmp}
use Rattle.vx_cond.proofs.CondLaws.{IsCond-extends}
use Rattle.vx_group.proofs.GroupLaws.{IsGroup-extends}
use Rattle.vx_heap.proofs.HeapLaws.{IsHeap-extends}
use Rattle.vx_space.proofs.Spaces.{Extends-trans}
use Rattle.vx_arrays.proofs.Stores.{places_held_later, values_held, written-made}
use Rattle.vx_arrays.proofs.storing.written.Goals as goal

pub values_kept-requires-clause-group : goal.values_kept-requires-clause-group
values_kept-requires-clause-group g c = IsGroup-extends c.in_ok-places.ensures.extends c.args.group.now c.requires.running.is_group

pub values_kept-requires-clause-operand : goal.values_kept-requires-clause-operand
values_kept-requires-clause-operand g c = omega (arith, c.requires.operands)

pub write_through-requires-clause-heap : goal.write_through-requires-clause-heap
write_through-requires-clause-heap g c = IsHeap-extends (Extends-trans c.in_ok-places.ensures.extends c.in_ok-values.ensures.extends) c.args.heap.now c.requires.running.is_heap

pub write_through-requires-clause-places : goal.write_through-requires-clause-places
write_through-requires-clause-places g c = IsCond-extends place_cmp c.in_ok-values.ensures.extends c.in_ok-places.places c.in_ok-places.ensures.cond

pub write_through-requires-clause-scopes : goal.write_through-requires-clause-scopes
write_through-requires-clause-scopes g c = c.in_ok-values.ensures.scope ∙ sym c.in_ok-places.ensures.scope

pub write_through-requires-clause-objects : goal.write_through-requires-clause-objects
write_through-requires-clause-objects g c = places_held_later c.args.site.now c.args.element c.args.heap.now c.args.group.now c.in_ok-places.places c.in_ok-values.values c.requires.running c.in_ok-places.ensures.extends c.in_ok-values.ensures.extends c.in_ok-places.ensures.cond c.in_ok-places.ensures.scope c.in_ok-places.ensures.at c.in_ok-values.ensures.scope c.in_ok-values.ensures.at

pub write_through-requires-clause-held : goal.write_through-requires-clause-held
write_through-requires-clause-held g c = values_held c.args.site.now c.args.element c.args.heap.now c.args.group.now c.in_ok-places.places c.in_ok-values.values c.requires.running c.in_ok-places.ensures.extends c.in_ok-values.ensures.extends c.in_ok-places.ensures.cond c.in_ok-places.ensures.scope c.in_ok-places.ensures.at c.in_ok-values.ensures.scope c.in_ok-values.ensures.at

pub returns-clause-extends : goal.returns-clause-extends
returns-clause-extends g c = Extends-trans c.in_ok-places.ensures.extends (Extends-trans c.in_ok-values.ensures.extends c.in_ok-write_through.ensures.extends)

pub returns-clause-ok : goal.returns-clause-ok
returns-clause-ok g c = written-made c.args.site.now c.args.element c.args.heap.now c.args.group.now c.in_ok-places.places c.in_ok-values.values c.requires.running c.in_ok-places.ensures.extends c.in_ok-values.ensures.extends c.in_ok-places.ensures.cond c.in_ok-places.ensures.scope c.in_ok-places.ensures.at c.in_ok-values.ensures.scope c.in_ok-values.ensures.at c.write_through.new.heap c.in_ok-write_through.ensures.extends c.in_ok-write_through.ensures.ok
