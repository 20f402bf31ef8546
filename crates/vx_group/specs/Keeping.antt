-- The law of keeping, for groups.
use Rattle.std.specs.Prelude.{◌≡◌, Bool, List, unwrap_or}
use Rattle.vx_space.specs.Sets.{Sets, AreKept}
use Rattle.vx_cond.specs.Cond.{cond_ids}
use Rattle.vx_cond.specs.Keeping.{cond_at-kept, AreKept-append_left, AreKept-append_right}
use Rattle.vx_frame.specs.Frame.{frame_ids}
use Rattle.vx_frame.specs.Keeping.{frame_at-kept}
use Rattle.vx_group.specs.Group.{GroupView, top_at, group_ids}

pub top_at-kept : {S I : Type 0} (old new : Sets I) (group : GroupView S I) (c : List Bool) → AreKept old new (group_ids group) → top_at new group c ≡ top_at old group c
top_at-kept old new group c k =
    let attempts = cond_at-kept old new group.attempts c (AreKept-append_left old new (cond_ids group.attempts) (frame_ids group.top) k) in
    let frame = frame_at-kept old new group.top c (AreKept-append_right old new (cond_ids group.attempts) (frame_ids group.top) k) in
    λ i. record { frame = frame i; attempts = unwrap_or (attempts i) 0 }
