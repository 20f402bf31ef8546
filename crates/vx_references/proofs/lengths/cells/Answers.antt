use Rattle.std.proofs.Common.{◌≡◌, ◌+◌, ◌-◌, ◌^◌, ◌∙◌, ℤ, pos, ap, arith, get_or, length, min, refl, rules}
use Rattle.std.proofs.Math.Facts.{to_z-of_z}
use Rattle.std.specs.Int.{w32}
use Rattle.vx_value.specs.Arithmetic.{natural}
use mir.Val.{SFits, of_z, to_z}
use Rattle.vx_references.proofs.CellCounts.{all_counted, none_yet, one_more}
use Rattle.vx_references.proofs.lengths.cells.Goals as goal

pub loop-inner-init : goal.loop-inner-init
loop-inner-init c = none_yet c.args.lengths.now (length c.args.lengths.now) (2 ^ 64 - 1) refl

pub loop-inner-preserved : goal.loop-inner-preserved
loop-inner-preserved c =
    let x : ℤ = get_or c.args.lengths.now (length c.args.lengths.now - 1 - c.loop-inner.inner) (pos 0) in
    let fits : SFits w32 x = search rules in
    let same : to_z w32 (of_z w32 x) ≡ x = to_z-of_z {w = w32} {z = x} fits in
    one_more c.args.lengths.now (length c.args.lengths.now) c.loop-inner.inner c.natural-length.result c.loop-inner.total c.saturating_add-total.result (2 ^ 64 - 1) (pos 0) refl c.loop-inner-test.true (c.natural-length.ensures ∙ ap natural same) c.loop-inner.invariant (c.saturating_add-total.ensures ∙ ap (λ k. min (c.natural-length.result + k) (2 ^ 64 - 1)) c.saturating_mul.ensures)

pub returns : goal.returns
returns c = all_counted c.args.lengths.now (length c.args.lengths.now) c.loop-inner.inner c.loop-inner.total (2 ^ 64 - 1) c.loop-inner-test.false (omega arith) c.loop-inner.invariant
