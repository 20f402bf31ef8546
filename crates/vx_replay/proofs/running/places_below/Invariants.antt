use Rattle.std.proofs.Common.{◌≡◌, map, take}
use Rattle.vx_plain.specs.Views.{frame_of}
use Rattle.vx_replay.specs.Replays.{places_in}
use Rattle.vx_replay.proofs.running.places_below.Given as goal

abbrev pub invariant-loop-frame : goal.invariant-loop-frame
invariant-loop-frame l = places_in l.places.items ≡ map (λ f. (f.method, f.position)) (map frame_of (take l.frame-index l.callers))
