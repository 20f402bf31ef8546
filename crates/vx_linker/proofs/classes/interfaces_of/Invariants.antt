use Rattle.std.proofs.Common.{◌≡◌, ◌++◌, drop, map}
use Rattle.vx_link.specs.Linked.{class_id}
use Rattle.vx_link.specs.Names.{class_name}
use Rattle.vx_linker.proofs.classes.interfaces_of.Given as goal

abbrev pub invariant-loop-index : goal.invariant-loop-index
invariant-loop-index l =
    l.ids.items ++ map (class_id (l.numbers.folder ++ l.numbers.core)) (map (class_name l.class.pool) (drop l.index-index l.index-items))
    ≡ map (class_id (l.numbers.folder ++ l.numbers.core)) (map (class_name l.class.pool) l.index-items)
