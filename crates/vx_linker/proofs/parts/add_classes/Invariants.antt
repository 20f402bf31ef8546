use Rattle.std.proofs.Common.{◌++◌, ◌≡◌, length}
use Rattle.std.specs.Vec.Iter.{into_iter_items, into_iter_len}
use Rattle.vx_linker.proofs.Numbering.{GoesOn}
use Rattle.vx_linker.proofs.parts.add_classes.Given as goal

abbrev pub invariant-loop-class : goal.invariant-loop-class
invariant-loop-class l =
    (into_iter_len l.class-iterator ≡ length (into_iter_items l.class-iterator))
    × (GoesOn (l.numbers.folder ++ l.numbers.core) l.options l.fn.parts l.linked l.fn.classes.items (into_iter_items l.class-iterator) l.fn.natives l.rows)
