use Rattle.std.proofs.Common.{refl}
use Rattle.vx_gen.proofs.Loops.{five}
use Rattle.vx_gen.proofs.classes.put_fixed.Goals as goal

pub returns : goal.returns
returns c = five _ _ _ _ _ _ _ _ _ _ _ _ c.in_ok-put_reference.ensures.ok c.in_ok-put_reference-2.ensures.ok c.in_ok-put_reference-3.ensures.ok c.in_ok-put_reference-4.ensures.ok c.in_ok-put_reference-5.ensures.ok refl
