use Rattle.std.proofs.Common.{[], ap, arith, rules, ◌-◌, ◌++◌, ◌∷◌, ◌≡◌, ◌∙◌}
use Rattle.std.proofs.Math.Facts.{to_z-of_z}
use Rattle.std.specs.Int.{w32}
use mir.Val.{SFits, of_z, to_z}
use Rattle.vx_plain.specs.Views.{state_of}
use Rattle.vx_plain_arrays.proofs.GridLaws.{all_taken, none_taken, not_taken, one_taken}
use Rattle.vx_plain_arrays.proofs.grids.lengths_on.Goals as goal

pub loop-dimension-init : goal.loop-dimension-init
loop-dimension-init c = rw c.new-lengths.ensures.items (none_taken c.args.dimensions (state_of c.args.state.now).top.operands)

pub loop-dimension-preserved : goal.loop-dimension-preserved
loop-dimension-preserved c =
    let n = c.in-Some.length in
    let told = rw c.in-Some.is at c.int_at.type_inv in
    let fits : SFits w32 n = search (rules, told) in
    let same : to_z w32 (of_z w32 n) ≡ n = to_z-of_z {w = w32} {z = n} fits in
    one_taken c.args.dimensions c.loop-dimension.dimension n c.loop-dimension.lengths.items c.push.new.self.items (state_of c.args.state.now).top.operands c.loop-dimension-test.true c.in-Some.ensures (c.in_ok-push-in-Some.ensures.items ∙ ap (λ k. c.loop-dimension.lengths.items ++ k ∷ []) same) c.loop-dimension.invariant

pub returns-in-None : goal.returns-in-None
returns-in-None c = not_taken c.args.dimensions (c.args.dimensions - 1 - c.loop-dimension.dimension) [] (state_of c.args.state.now).top.operands (omega (arith, c.loop-dimension-test.true)) c.in-None.ensures

pub returns : goal.returns
returns c = all_taken c.args.dimensions c.loop-dimension.dimension c.loop-dimension.lengths.items (state_of c.args.state.now).top.operands (omega (arith, c.loop-dimension-test.false, c.loop-dimension.auto.dimension-end)) c.loop-dimension.invariant
