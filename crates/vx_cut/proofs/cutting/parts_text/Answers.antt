use Rattle.std.proofs.Common.{arith}
use Rattle.std.proofs.lemmas.Result.{err_from_is_err_and}
use Rattle.vx_cut.proofs.Putting.{IsPutting-all, IsPutting-fails, IsPutting-start, IsPutting-step}
use Rattle.vx_cut.proofs.cutting.parts_text.Goals as goal

pub loop-i-init : goal.loop-i-init
loop-i-init c = rw c.new-out.ensures.items (IsPutting-start c.args.dimacs c.args.text.now c.args.model.now c.args.terms.now)

pub loop-i-preserved : goal.loop-i-preserved
loop-i-preserved c =
    let put = rw c.as_slice.ensures at c.in_ok-put_sized.ensures in
    rw put.0 (IsPutting-step c.args.dimacs c.args.text.now c.args.model.now c.args.terms.now c.loop-i.i c.index-terms-i.result c.loop-i.out.items c.loop-i-test.true c.index-terms-i.is put.1 c.loop-i.invariant)

pub returns-in_err-put_sized : goal.returns-in_err-put_sized
returns-in_err-put_sized c =
    let p = err_from_is_err_and c.from_residual.result c.from_residual.ensures.1 in
    let put = rw c.as_slice.ensures at c.in_err-put_sized.ensures in
    rw (p.1, p.2) (IsPutting-fails c.args.dimacs c.args.text.now c.args.model.now c.args.terms.now c.loop-i.i c.index-terms-i.result c.loop-i.out.items _ c.loop-i-test.true c.index-terms-i.is c.loop-i.invariant put)

pub returns : goal.returns
returns c = IsPutting-all c.args.dimacs c.args.text.now c.args.model.now c.args.terms.now c.loop-i.i c.loop-i.out.items c.loop-i-test.false c.loop-i.invariant
