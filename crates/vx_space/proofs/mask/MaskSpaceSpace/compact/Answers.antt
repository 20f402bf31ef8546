use Rattle.std.proofs.Common.{refl}
use Rattle.vx_space.proofs.Spaces.{AreKept-refl}
use Rattle.vx_space.proofs.mask.MaskSpaceSpace.compact.Goals as goal

pub returns-clause-ok : goal.returns-clause-ok
returns-clause-ok c = record { options = refl; never = refl; always = refl; counts = refl; base = refl; kept = AreKept-refl _ c.args._roots.now c.requires }
