use Rattle.std.proofs.Common.{◌≡◌, ◌++◌, length}
use Rattle.std.specs.Vec.Iter.{into_iter_items, into_iter_len}
use Rattle.vx_compare.specs.Wide.{end_with, renumbered}
use Rattle.vx_compare.proofs.wide.numbered_ends.Given as goal

abbrev pub invariant-loop-line : goal.invariant-loop-line
invariant-loop-line l =
    (into_iter_len l.line-iterator ≡ length (into_iter_items l.line-iterator))
    × (l.lines.items ++ renumbered end_with (into_iter_items l.line-iterator) l.rest ≡ renumbered end_with l.fn.ends.items l.fn.numbers)
