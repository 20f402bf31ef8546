use Rattle.std.proofs.Common.{◌≡◌, ◌++◌, take}
use Rattle.std.specs.List.{flat_map}
use Rattle.vx_replay.specs.ReplayText.{frame_line}
use Rattle.vx_replay.specs.Replays.{places_in}
use Rattle.vx_replay.proofs.text.put_places.Given as goal

abbrev pub invariant-loop-at : goal.invariant-loop-at
invariant-loop-at l = l.out.items ≡ l.initial.out.items ++ flat_map (frame_line l.program l.tables) (places_in (take l.at-index l.frames))
