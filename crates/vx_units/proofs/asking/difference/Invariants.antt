use Rattle.std.proofs.Common.{◌≡◌, ◌≤◌, drop, length}
use Rattle.vx_java.specs.Texts.{text_difference}
use Rattle.vx_units.proofs.asking.difference.Given as goal

abbrev pub invariant-loop-place : goal.invariant-loop-place
invariant-loop-place l = record {
  within : l.place ≤ length l.second;
  so_far : text_difference (drop l.place l.first) (drop l.place l.second) ≡ text_difference l.first l.second;
}
