-- The law of keeping, for frames.
use Rattle.std.specs.Prelude.{◌≡◌, Bool, List, refl}
use Rattle.vx_space.specs.Sets.{Sets, AreKept}
use Rattle.vx_cond.specs.Row.{row_ids}
use Rattle.vx_cond.specs.Keeping.{row_at-kept, AreKept-append_left, AreKept-append_right}
use Rattle.vx_frame.specs.declared.frame.Frame.{Frame}
use Rattle.vx_frame.specs.Frame.{frame_at, frame_ids}

pub frame_at-kept : {S I : Type 0} (old new : Sets I) (frame : Frame S I) (c : List Bool) → AreKept old new (frame_ids frame) → frame_at new frame c ≡ frame_at old frame c
frame_at-kept old new frame c k = rw (row_at-kept old new frame.locals c (AreKept-append_left old new (row_ids frame.locals) (row_ids frame.stack) k), row_at-kept old new frame.stack c (AreKept-append_right old new (row_ids frame.locals) (row_ids frame.stack) k)) refl
