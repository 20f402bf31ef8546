use Rattle.std.proofs.Common.{ap, map, subst, sym, ◌≤◌, ◌∙◌}
use Rattle.vx_java.specs.Arrays.{grid, grid_cells}
use Rattle.vx_java.specs.Machine.{length_bound, next_object, with_objects}
use Rattle.vx_plain.specs.Views.{state_of}
use Rattle.vx_plain_arrays.proofs.GridLaws.{grid_pushed}
use Rattle.vx_plain_here.specs.Rows.{here_in}
use Rattle.vx_value.specs.Arithmetic.{natural}
use Rattle.vx_plain_arrays.proofs.grids.push_grid.Goals as goal

pub add_grid-requires : goal.add_grid-requires
add_grid-requires c = subst (λ ns. grid_cells ns ≤ length_bound) (sym (c.deref.ensures.value ∙ c.in_ok-numbers.ensures)) c.requires

pub returns : goal.returns
returns c =
    let h = here_in c.args.here.now (state_of c.args.state.now) in
    grid_pushed c.go_with.result h c.args.class.0 c.next_object-place.result c.args.taken (map natural c.args.lengths.now) (state_of c.add_grid.new.state) (state_of c.go_with.new.state) c.next_object-place.ensures.place (c.in_ok-add_grid.ensures ∙ ap (λ ns. with_objects h.state (grid h.program c.args.class.0 ns (next_object h.state))) (c.deref.ensures.value ∙ c.in_ok-numbers.ensures)) c.go_with.ensures
