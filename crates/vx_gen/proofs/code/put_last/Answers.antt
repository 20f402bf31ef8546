use Rattle.std.proofs.Common.{refl}
use Rattle.vx_gen.proofs.Loops.{four}
use Rattle.vx_gen.proofs.code.put_last.Goals as goal

pub returns : goal.returns
returns c = four _ _ _ _ _ _ _ _ _ _ c.in_ok-put_naming.ensures c.in_ok-push.ensures.items c.in_ok-put_naming-2.ensures c.in_ok-push-2.ensures.items refl
