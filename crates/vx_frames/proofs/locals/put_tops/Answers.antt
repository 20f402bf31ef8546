use Rattle.std.proofs.Common.{◌≡◌, arith}
use Rattle.vx_frames.proofs.LocalLaws.{AreTops-end, AreTops-start, AreTops-step}
use Rattle.vx_frames.proofs.locals.put_tops.Goals as goal

pub loop-local-init : goal.loop-local-init
loop-local-init g c = AreTops-start _ c.args.locals.now c.requires

pub put_top-requires : goal.put_top-requires
put_top-requires g c = c.loop-local.invariant.is_row

pub loop-local-preserved : goal.loop-local-preserved
loop-local-preserved g c = AreTops-step _ c.args.locals.now c.loop-local.locals _ c.loop-local._local c.loop-local.invariant c.in_ok-put_top.ensures

pub returns : goal.returns
returns g c =
    let all : c.loop-local._local ≡ c.args.count = omega (arith, c.loop-local-test.false, c.loop-local.auto._local-end) in
    AreTops-end _ c.args.locals.now c.loop-local.locals c.loop-local._local c.args.count all c.loop-local.invariant
