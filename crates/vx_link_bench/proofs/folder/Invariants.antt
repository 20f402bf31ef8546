use Rattle.std.proofs.Common.{◌≡◌, All, length}
use Rattle.vx_class.specs.File.{Holds}
use Rattle.vx_link_bench.proofs.folder.Given as goal

abbrev pub invariant-loop-number : goal.invariant-loop-number
invariant-loop-number l = record {
  count : length l.classes.items ≡ l.number;
  holds : All Holds l.classes.items;
}
