use Rattle.vx_frames.proofs.UnwindLaws.{passes_frames}
use Rattle.vx_frames.proofs.unwinding.frames_are_passed.Goals as goal

pub returns : goal.returns
returns c = passes_frames
