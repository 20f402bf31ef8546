use Rattle.std.proofs.Common.{◌≡◌, drop}
use Rattle.vx_java.specs.Texts.{hash_after, hash_of}
use Rattle.vx_units.proofs.asking.hash.Given as goal

abbrev pub invariant-loop-unit : goal.invariant-loop-unit
invariant-loop-unit l = hash_after l.sum (drop l.unit-index l.units) ≡ hash_of l.units
