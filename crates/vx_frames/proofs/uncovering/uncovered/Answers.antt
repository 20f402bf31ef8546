use Rattle.std.proofs.Common.{refl}
use Rattle.vx_frames.proofs.UncoverLaws.{IsUncovered-made, has_below}
use Rattle.vx_frames.proofs.uncovering.uncovered.Goals as goal

pub unreachable-requires : goal.unreachable-requires
unreachable-requires g c = has_below c.args.group.below c.requires.called ((rw c.in_default.is at c.in_ok-frame.ensures.none).0 refl)

pub returns-clause-uncovered : goal.returns-clause-uncovered
returns-clause-uncovered g c = IsUncovered-made c.in_ok-frame.ensures.extends _ c.args.group c.in-Some.frame _ (rw c.in_ok-frame.ensures.tree c.requires.group) (rw c.in-Some.is at c.in_ok-frame.ensures.some)
