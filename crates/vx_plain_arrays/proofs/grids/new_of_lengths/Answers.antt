use Rattle.std.proofs.Common.{drop, length}
use Rattle.vx_plain.specs.Views.{state_of}
use Rattle.vx_plain_arrays.proofs.GridLaws.{no_lengths, none_left, some_left, some_lengths}
use Rattle.vx_plain_here.proofs.Comes.{comes_as}
use Rattle.vx_plain_here.specs.Rows.{here_in}
use Rattle.vx_plain_arrays.proofs.grids.new_of_lengths.Goals as goal

pub returns-then-is_empty : goal.returns-then-is_empty
returns-then-is_empty c =
    let h = here_in c.args.here.now (state_of c.args.state.now) in
    let none = none_left (length c.args.lengths.now) c.is_empty.result c.is_empty.ensures c.if-is_empty.true in
    comes_as c.illegal.result _ _ _ _ (no_lengths h c.args.class.0 c.args.lengths.now (drop c.args.taken h.state.top.operands) none) c.illegal.ensures

pub returns-else-is_empty : goal.returns-else-is_empty
returns-else-is_empty c =
    let h = here_in c.args.here.now (state_of c.args.state.now) in
    let some = some_left (length c.args.lengths.now) c.is_empty.result c.is_empty.ensures c.if-is_empty.false in
    comes_as c.new_by_lengths.result _ _ _ _ (some_lengths h c.args.class.0 c.args.lengths.now (drop c.args.taken h.state.top.operands) some) c.new_by_lengths.ensures
