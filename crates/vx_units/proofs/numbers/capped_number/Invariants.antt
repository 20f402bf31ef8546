use Rattle.std.proofs.Common.{◌≡◌, ◌≤◌, drop, min}
use Rattle.std.specs.Prelude.{option_map}
use Rattle.vx_java.specs.Library.{digits_value, some_digits}
use Rattle.vx_units.proofs.numbers.capped_number.Given as goal

abbrev pub invariant-loop-unit : goal.invariant-loop-unit
invariant-loop-unit l = record {
  capped : l.number ≤ 4294967296;
  so_far : option_map (min 4294967296) (digits_value l.number (drop l.unit-index l.units)) ≡ option_map (min 4294967296) (some_digits l.units);
}
