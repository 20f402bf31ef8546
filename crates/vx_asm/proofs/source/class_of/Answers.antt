use Rattle.std.proofs.Common.{arith}
use Rattle.vx_asm.proofs.Short.{few_in_source}
use Rattle.vx_asm.proofs.source.class_of.Goals as goal

pub finish-requires : goal.finish-requires
finish-requires c =
    let few = few_in_source c.args.bytes.now c.in_ok-source.source c.in_ok-source.ensures in
    omega (arith, few)
