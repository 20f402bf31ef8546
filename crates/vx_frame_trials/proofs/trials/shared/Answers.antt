use Rattle.std.proofs.Common.{arith}
use Rattle.vx_group.proofs.CallerLaws.{Keeps-refl}
use Rattle.vx_group.proofs.GroupLaws.{IsGroupIn-group, IsGroupIn-later}
use Rattle.vx_frame_trials.proofs.CalledLaws.{part_depth, part_in}
use Rattle.vx_frame_trials.proofs.trials.shared.Goals as goal

pub split-requires-clause-group : goal.split-requires-clause-group
split-requires-clause-group g c = IsGroupIn-group _ _ c.in_ok-group.group c.in_ok-group.ensures.group

pub split-requires-clause-known : goal.split-requires-clause-known
split-requires-clause-known g c = c.in_ok-group.ensures.extends.known _ c.in_ok-on.ensures.known

pub keeps_its_own-requires-clause-group : goal.keeps_its_own-requires-clause-group
keeps_its_own-requires-clause-group g c = part_in _ c.in_ok-inside.ensures.extends c.in_ok-group.group _ _ c.in_ok-group.ensures.group c.in_ok-inside.ensures.inside

pub keeps_its_own-requires-clause-called : goal.keeps_its_own-requires-clause-called
keeps_its_own-requires-clause-called g c =
    let two = c.in_ok-group.ensures.depth in
    let same = part_depth _ _ _ c.in_ok-group.group _ c.in_ok-inside.ensures.inside in
    omega (arith, two, same)

pub keeps_its_own-requires-2-clause-group : goal.keeps_its_own-requires-2-clause-group
keeps_its_own-requires-2-clause-group g c = rw c.in_ok-is_two.ensures.callers (IsGroupIn-later c.in_ok-is_two.ensures.extends (Keeps-refl _) _ (part_in _ c.in_ok-inside.ensures.extends c.in_ok-group.group _ _ c.in_ok-group.ensures.group c.in_ok-inside.ensures.outside))

pub keeps_its_own-requires-2-clause-called : goal.keeps_its_own-requires-2-clause-called
keeps_its_own-requires-2-clause-called g c =
    let two = c.in_ok-group.ensures.depth in
    let same = part_depth _ _ _ c.in_ok-group.group _ c.in_ok-inside.ensures.outside in
    omega (arith, two, same)
