use Rattle.std.proofs.Common.{◌≡◌, length}
use Rattle.vx_cut.specs.Choices.{chosen_count}
use Rattle.vx_cut.proofs.choosing.highest.Given as goal

abbrev pub invariant-loop-round : goal.invariant-loop-round
invariant-loop-round l = record {
  options : length l.chosen.items ≡ length l.ranks;
  count : chosen_count l.chosen.items ≡ l.round;
}
