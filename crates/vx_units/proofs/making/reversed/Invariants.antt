use Rattle.std.proofs.Common.{◌≡◌, ◌-◌, ◌≤◌, [], drop, length, reverse}
use Rattle.vx_java.specs.Texts.{reversed_onto}
use Rattle.vx_units.proofs.making.reversed.Given as goal

abbrev pub invariant-loop-place : goal.invariant-loop-place
invariant-loop-place l = record {
  within : l.place ≤ length l.units;
  so_far : reversed_onto (reverse l.made.items) (drop l.place l.units) ≡ reversed_onto [] l.units;
}

abbrev pub decreases-loop-place : goal.decreases-loop-place
decreases-loop-place l = length l.units - l.place
