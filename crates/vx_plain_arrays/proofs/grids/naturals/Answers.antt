use Rattle.std.proofs.Common.{ℤ, ap, get_or, pos, ◌≡◌, ◌∙◌}
use Rattle.std.proofs.Common.{rules}
use Rattle.std.proofs.Math.Facts.{to_z-of_z}
use Rattle.std.specs.Int.{w32}
use Rattle.vx_value.specs.Arithmetic.{natural}
use mir.Val.{SFits, of_z, to_z}
use Rattle.vx_plain_arrays.proofs.GridLaws.{natural_more}
use Rattle.vx_plain_arrays.proofs.grids.naturals.Goals as goal

pub loop-length-preserved : goal.loop-length-preserved
loop-length-preserved c =
    let x : ℤ = get_or c.args.lengths.now c.loop-length.length-index (pos 0) in
    let fits : SFits w32 x = search rules in
    let same : to_z w32 (of_z w32 x) ≡ x = to_z-of_z {w = w32} {z = x} fits in
    natural_more c.args.lengths.now c.loop-length.length-index c.natural.result (pos 0) c.loop-length.numbers.items c.push.new.self.items c.loop-length-test.true (c.natural.ensures ∙ ap natural same) c.loop-length.invariant c.in_ok-push.ensures.items
