-- What was made, with the bytes of the units that are left, is the bytes of all the units.
use Rattle.std.proofs.Common.{◌≡◌, ◌++◌, ◌-◌, length, drop}
use Rattle.vx_java.specs.Step.{utf8_of}
use Rattle.vx_spelling.proofs.units.utf8.Given as goal

abbrev pub invariant-loop-at : goal.invariant-loop-at
invariant-loop-at l = l.text.bytes.items ++ utf8_of (drop l.at l.units) ≡ utf8_of l.units

abbrev pub decreases-loop-at : goal.decreases-loop-at
decreases-loop-at l = length l.units - l.at
