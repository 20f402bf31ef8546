use Rattle.std.proofs.Common.{◌≡◌, ◌++◌, map, take}
use Rattle.vx_link.specs.Tables.{parent_places}
use Rattle.vx_linker.proofs.judging.add_rows.Given as goal

abbrev pub invariant-loop-class : goal.invariant-loop-class
invariant-loop-class l =
    l.rows.items ≡ l.initial.rows.items ++ map (parent_places (l.files.classes.items ++ l.files.core.items)) (take l.class-index l.classes)
