use Rattle.std.proofs.Common.{ap, arith, ◌+◌}
use Rattle.vx_java.specs.Machine.{next_object}
use Rattle.vx_plain.specs.Views.{object_of, state_of}
use Rattle.vx_plain_arrays.proofs.GridLaws.{outer_array}
use Rattle.vx_plain_arrays.proofs.grids.array_of_parts.Goals as goal

pub returns : goal.returns
returns c =
    outer_array (object_of c.array.result) c.args.class.0 c.args.length c.args.each (c.next_object-from.result + 1) (next_object (state_of c.args.state.now)) c.in_ok-references.references.items c.array.ensures c.in_ok-references.ensures (ap (λ k. k + 1) c.next_object-from.ensures.place)

pub references_to-requires : goal.references_to-requires
references_to-requires c = omega (arith, c.next_object-from.ensures.few, c.requires)
