use Rattle.std.proofs.Common.{◌≡◌, ◌++◌, take}
use Rattle.vx_cover.specs.Targets.{covered, left_open}
use Rattle.vx_cover.proofs.blocks.meet_targets.Given as goal

abbrev pub invariant-loop-target : goal.invariant-loop-target
invariant-loop-target g l = record {
  numbers : l.numbers.items ≡ l.fn.numbers.items ++ covered (g.S.Space.sets l.space) l.c (take l.target-index l.targets);
  rest : l.rest.items ≡ left_open (g.S.Space.sets l.space) l.c (take l.target-index l.targets);
}
