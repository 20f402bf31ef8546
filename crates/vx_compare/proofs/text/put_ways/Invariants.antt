use Rattle.std.proofs.Common.{◌≡◌, ◌++◌, take}
use Rattle.std.specs.List.{flat_map}
use Rattle.vx_compare.specs.Text.{way_text}
use Rattle.vx_compare.proofs.text.put_ways.Given as goal

abbrev pub invariant-loop-way : goal.invariant-loop-way
invariant-loop-way l = l.out.items ≡ l.initial.out.items ++ flat_map (way_text l.names) (take l.way-index l.ways)
