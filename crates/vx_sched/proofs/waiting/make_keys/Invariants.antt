use Rattle.std.specs.Prelude.{◌≡◌, length}
use Rattle.vx_sched.specs.Keys.{AreFirstKeys}
use Rattle.vx_sched.proofs.waiting.make_keys.Given as goal

abbrev pub invariant-loop-place : goal.invariant-loop-place
invariant-loop-place g l = (length l.keys.items ≡ l.place) × AreFirstKeys l.keys.items l.groups
