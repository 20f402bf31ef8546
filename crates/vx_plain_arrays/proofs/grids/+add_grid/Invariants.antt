use Rattle.std.proofs.Common.{◌≡◌, ◌-◌, length}
use Rattle.vx_java.specs.Arrays.{grid}
use Rattle.vx_java.specs.Machine.{next_object, with_objects}
use Rattle.vx_plain.specs.Views.{state_of}
use Rattle.vx_plain_arrays.proofs.GridLaws.{with_parts}
use Rattle.vx_plain_arrays.proofs.grids.+add_grid.Given as goal

abbrev pub decreases-add_grid : goal.decreases-add_grid
decreases-add_grid l = length l.lengths.now

abbrev pub invariant-loop-part : goal.invariant-loop-part
invariant-loop-part l = with_parts l.program l.component.0 l.deeper (l.count - l._part) l.each (state_of l.state) ≡ with_objects (state_of l.fn.state) (grid l.program l.fn.class.0 l.lengths (next_object (state_of l.fn.state)))
