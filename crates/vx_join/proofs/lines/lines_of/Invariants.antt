use Rattle.std.proofs.Common.{◌≡◌, ◌++◌, length}
use Rattle.std.specs.Vec.Iter.{into_iter_items, into_iter_len}
use Rattle.vx_join.specs.Steps.{lines_with}
use Rattle.vx_join.proofs.lines.lines_of.Given as goal

abbrev pub invariant-loop-shared : goal.invariant-loop-shared
invariant-loop-shared g l =
    (into_iter_len l.shared-iterator ≡ length (into_iter_items l.shared-iterator))
    × (l.lines.items ++ lines_with g.E.Entry.line (into_iter_items l.shared-iterator) l.rest ≡ lines_with g.E.Entry.line l.fn.values.items l.fn.numbers)
