use Rattle.std.proofs.Common.{ap, drop, refl, take, ◌∙◌}
use Rattle.vx_java.specs.Library.{cells_with}
use Rattle.vx_java.specs.Machine.{object_at, with_cells}
use Rattle.vx_plain.specs.Views.{state_of, values_of}
use Rattle.vx_plain_here.proofs.Comes.{comes_as, comes_from}
use Rattle.vx_plain_here.specs.Rows.{here_in}
use Rattle.vx_plain_natives.proofs.Copies.{copy_there}
use Rattle.vx_plain_natives.specs.Copying.{fitting}
use Rattle.vx_plain_natives.proofs.copying.copy_values.Goals as goal

pub returns : goal.returns
returns c =
    let s = state_of c.args.state.now in
    let h = here_in c.args.call.now.here.now s in
    let values = c.args.values.now in
    let comes = rw c.in_ok-write_cells.ensures.ok at c.copied.ensures in
    let fits = c.fitting-count.ensures.count ∙ ap (λ class. fitting h class (values_of values)) c.class_of.ensures in
    comes_as c.copied.result _ _ _ _ (copy_there h (drop c.args.call.now.taken s.top.operands) c.args.to c.args.j values c.fitting-count.result fits c.fitting-count.ensures.within)
    (comes_from c.copied.result _ s (with_cells s c.args.to (cells_with (object_at s c.args.to).cells c.args.j (values_of (take c.fitting-count.result values)))) _ refl comes)
