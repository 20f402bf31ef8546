use Rattle.std.proofs.Common.{◌≡◌, ◌++◌, drop}
use Rattle.std.specs.List.{filter_map}
use Rattle.vx_link.specs.Tables.{place_of_class}
use Rattle.vx_linker.proofs.judging.add_interfaces.Given as goal

abbrev pub invariant-loop-index : goal.invariant-loop-index
invariant-loop-index l =
    l.places.items ++ filter_map (place_of_class (l.files.classes.items ++ l.files.core.items) l.class.pool) (drop l.index-index l.index-items)
    ≡ l.initial.places.items ++ filter_map (place_of_class (l.files.classes.items ++ l.files.core.items) l.class.pool) l.index-items
