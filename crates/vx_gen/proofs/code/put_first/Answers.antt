use Rattle.std.proofs.Common.{refl}
use Rattle.vx_gen.proofs.Loops.{three}
use Rattle.vx_gen.proofs.code.put_first.Goals as goal

pub returns : goal.returns
returns c = three _ _ _ _ _ _ _ _ c.in_ok-extend_from_slice.ensures.items c.in_ok-put_object.ensures c.in_ok-put_object-2.ensures refl
