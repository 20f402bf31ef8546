use Rattle.std.proofs.Common.{◌≡◌, map, take}
use Rattle.vx_noted.specs.Noted.{standing_at}
use Rattle.vx_plain.specs.Views.{frame_of}
use Rattle.vx_noted.proofs.frames.standings_below.Given as goal

abbrev pub invariant-loop-frame : goal.invariant-loop-frame
invariant-loop-frame l = l.frames.items ≡ map standing_at (map frame_of (take l.frame-index l.callers))
