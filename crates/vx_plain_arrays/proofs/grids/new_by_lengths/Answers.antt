use Rattle.std.proofs.Common.{map, sym, ◌∙◌}
use Rattle.vx_value.specs.Arithmetic.{natural}
use Rattle.vx_plain_arrays.proofs.GridLaws.{few_cells}
use Rattle.vx_plain_arrays.proofs.grids.new_by_lengths.Goals as goal

pub push_grid-requires : goal.push_grid-requires
push_grid-requires c = few_cells (map natural c.args.lengths.now) (sym c.is_large.ensures ∙ c.if-is_large.false)
