use Rattle.std.proofs.Common.{refl}
use Rattle.vx_gen.proofs.Loops.{two}
use Rattle.vx_gen.proofs.code.put_choice.Goals as goal

pub returns : goal.returns
returns c = two _ _ _ _ _ _ c.in_ok-put_naming.ensures c.in_ok-extend_from_slice.ensures.items refl
