use Rattle.std.proofs.Common.{◌≡◌, ◌++◌, take}
use Rattle.std.specs.List.{flat_map}
use Rattle.vx_check.specs.Text.{told_line}
use Rattle.vx_check.proofs.text.put_all_told.Given as goal

abbrev pub invariant-loop-told : goal.invariant-loop-told
invariant-loop-told l = l.out.items ≡ l.initial.out.items ++ flat_map (told_line l.names) (take l.told-index l.all)
