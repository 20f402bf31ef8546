use Rattle.std.proofs.Common.{◌≡◌, ◌++◌, take}
use Rattle.std.specs.List.{flat_map}
use Rattle.vx_replay.specs.Replays.{places_in}
use Rattle.vx_trace.specs.TraceText.{frame_line}
use Rattle.vx_trace.proofs.tracing.put_frames.Given as goal

abbrev pub invariant-loop-at : goal.invariant-loop-at
invariant-loop-at l = l.out.items ≡ l.initial.out.items ++ flat_map (λ at. frame_line l.origin.program.now l.origin.tables.now l.origin.files.now at.0 at.1) (places_in (take l.at-index l.frames))
