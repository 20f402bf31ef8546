use Rattle.std.proofs.Common.{◌∙◌, ◌||◌, ap, sym, map, nat_lt}
use Rattle.vx_java.specs.Arrays.{grid_cells}
use Rattle.vx_java.specs.Machine.{length_bound}
use Rattle.vx_value.specs.Arithmetic.{natural}
use Rattle.vx_references.proofs.CellCounts.{any_map}
use Rattle.vx_references.proofs.lengths.is_large.Goals as goal

pub returns-then-has_long : goal.returns-then-has_long
returns-then-has_long c =
    let long = sym (any_map natural (nat_lt length_bound) c.args.lengths.now) ∙ sym c.has_long.ensures ∙ c.if-has_long.true in
    sym (ap (λ b. b || nat_lt length_bound (grid_cells (map natural c.args.lengths.now))) long)

pub returns : goal.returns
returns c =
    let short = sym (any_map natural (nat_lt length_bound) c.args.lengths.now) ∙ sym c.has_long.ensures ∙ c.if-has_long.false in
    c.cells.ensures ∙ sym (ap (λ b. b || nat_lt length_bound (grid_cells (map natural c.args.lengths.now))) short)
