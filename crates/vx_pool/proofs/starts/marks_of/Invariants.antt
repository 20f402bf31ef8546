use Rattle.std.proofs.Common.{◌≡◌, length, take}
use Rattle.vx_pool.specs.Marks.{AreMarks}
use Rattle.vx_pool.proofs.starts.marks_of.Given as goal

abbrev pub invariant-loop-place : goal.invariant-loop-place
invariant-loop-place l = record {
  marked : AreMarks l.marks.items (take l.place-index l.places);
  room : length l.marks.items ≡ l.count;
}
