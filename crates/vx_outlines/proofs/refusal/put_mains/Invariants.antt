use Rattle.std.proofs.Common.{flat_map, take, ◌++◌, ◌≡◌}
use Rattle.vx_outlines.specs.Refusals.{main_line}
use Rattle.vx_outlines.proofs.refusal.put_mains.Given as goal

abbrev pub invariant-loop-class : goal.invariant-loop-class
invariant-loop-class l = l.out.items ≡ l.initial.out.items ++ flat_map main_line (take l.class-index l.classes)
