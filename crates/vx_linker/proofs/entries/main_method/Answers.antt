use Rattle.std.proofs.Common.{arith}
use Rattle.vx_linker.proofs.Found.{finds, finds_on, rest_at}
use Rattle.vx_linker.proofs.entries.main_method.Goals as goal

pub returns-in-Some : goal.returns-in-Some
returns-in-Some c =
    finds c.args.methods.now c.args.main.now c.args.classes.now _ _ c.class-item.result c.in-Some.number.0 c.loop-class.invariant (rest_at c.args.classes.now c.loop-class.class-index c.class-item.result (omega arith) c.class-item.is) c.in-Some.ensures

pub loop-class-preserved : goal.loop-class-preserved
loop-class-preserved c =
    finds_on c.args.methods.now c.args.main.now c.args.classes.now _ _ c.class-item.result c.loop-class.invariant (rest_at c.args.classes.now c.loop-class.class-index c.class-item.result (omega arith) c.class-item.is) c.in-None.ensures
